-- Graphs over the places below a number, and what leads to what: of the classes and interfaces of a build, what stands above one,
-- what holds what, and by which rank one falls along it (docs/LANGUAGE.md, "Names of a build"; the AngelScript manual, "Inheritance").
-- Edges are a function on places; nothing here knows a tree.
use Rattle.std.specs.Prelude.{ℕ, zero, suc, Bool, true, false, not, ◌≡◌, ◌<◌, ◌==◌, ◌&&◌, ◌||◌, List, [], ◌∷◌, ◌++◌}
use Rattle.std.specs.Prelude.{if◌then◌else◌}

-- what a relation is once the ways through place k are put in
abbrev pub through : (ℕ → ℕ → Bool) → ℕ → ℕ → ℕ → Bool
through f k i j = f i j || (f i k && f k j)

-- some way of one edge or more leads from i to j, all places between below k
unfoldable pub leads : (ℕ → ℕ → Bool) → ℕ → ℕ → ℕ → Bool
leads e zero i j = e i j
leads e (suc k) i j = leads e k i j || (leads e k i k && leads e k k j)

-- m edges and one more, one after the other
abbrev pub Way : (ℕ → ℕ → Bool) → ℕ → ℕ → ℕ → Type 0
Way e zero i j = e i j ≡ true
Way e (suc m) i j = (k : ℕ) × (e i k ≡ true) × Way e m k j

-- each edge ends below n
pub record IsWithin (e : ℕ → ℕ → Bool) (n : ℕ) : Type 0 where
  pub below : (i j : ℕ) → e i j ≡ true → j < n

-- how many numbers below n pass
abbrev pub count_below : (ℕ → Bool) → ℕ → ℕ
count_below p zero = zero
count_below p (suc n) = if p n then suc (count_below p n) else count_below p n

-- to how many places one leads
abbrev pub reach_of : (ℕ → ℕ → Bool) → ℕ → ℕ → ℕ
reach_of e n i = count_below (leads e n i) n

-- ---- what stands above a place, and how near

-- the numbers below n that pass, rising
abbrev pub numbers_below : (ℕ → Bool) → ℕ → List ℕ
numbers_below p zero = []
numbers_below p (suc n) = numbers_below p n ++ (if p n then n ∷ [] else [])

-- All places that one leads to, rising.
unfoldable pub above : (ℕ → ℕ → Bool) → ℕ → ℕ → List ℕ
above e n i = numbers_below (leads e n i) n

-- whether some number below n passes
abbrev pub some_below : (ℕ → Bool) → ℕ → Bool
some_below p zero = false
some_below p (suc n) = p n || some_below p n

-- j is i itself, or some way of d edges at most leads from i to j
unfoldable pub is_near : (ℕ → ℕ → Bool) → ℕ → ℕ → ℕ → ℕ → Bool
is_near e n zero i j = i == j
is_near e n (suc d) i j = is_near e n d i j || some_below (λ k. is_near e n d i k && e k j) n

-- the places that d edges lead to and no fewer do, rising: a ring of parents
abbrev pub ring : (ℕ → ℕ → Bool) → ℕ → ℕ → ℕ → List ℕ
ring e n zero i = i ∷ []
ring e n (suc d) i = numbers_below (λ j. is_near e n (suc d) i j && not (is_near e n d i j)) n

-- the rings up to the one of d edges, the nearest first
abbrev pub rings : (ℕ → ℕ → Bool) → ℕ → ℕ → ℕ → List ℕ
rings e n zero i = ring e n zero i
rings e n (suc d) i = rings e n d i ++ ring e n (suc d) i

-- The place itself and all that stands above it, the nearest first, of equally near ones the lowest number first.
unfoldable pub order_of : (ℕ → ℕ → Bool) → ℕ → ℕ → List ℕ
order_of e n i = rings e n n i

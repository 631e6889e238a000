-- Graphs of families: what is listed as above a place, the first number that passes a test, and what stands in the order of base classes.
use Rattle.std.specs.Prelude.{ℕ, zero, suc, Bool, true, false, not, ◌≡◌, ◌<◌, ◌≤◌, ◌+◌, ◌==◌, ◌&&◌, ◌||◌, ◌⊎◌, List, [], ◌∷◌, find, cond, Some, None, if◌then◌else◌}
use Rattle.std.specs.List.{list_any, range_with_len}
use Rattle.std.proofs.Common.{arith, refl, ap, sym, subst, inl, inr, ◌∙◌}
use Rattle.std.proofs.lemmas.Bool.{eq-eqb}
use Rattle.std.proofs.lemmas.Option.{same_Some}
use Rattle.std.proofs.lemmas.List.Folds.{list_any-append}
use Rattle.ang_names_graph.specs.Graphs.{count_below, reach_of, some_below, is_near, ring, rings, leads, above, order_of}
use Rattle.ang_names_graph.proofs.Rings.{any_numbers, some_in}

-- ---- truth values

pub or_left : (a b : Bool) → a ≡ true → (a || b) ≡ true
or_left true b e = refl
or_left false b e = cc

pub or_right : (a b : Bool) → b ≡ true → (a || b) ≡ true
or_right true b e = refl
or_right false b e = e

pub or_cases : (a b : Bool) → (a || b) ≡ true → (a ≡ true) ⊎ (b ≡ true)
or_cases true b e = inl refl
or_cases false b e = inr e

pub both_true : (a b : Bool) → a ≡ true → b ≡ true → (a && b) ≡ true
both_true true b e f = f
both_true false b e f = cc

pub and_parts : (a b : Bool) → (a && b) ≡ true → (a ≡ true) × (b ≡ true)
and_parts true b e = (refl, e)
and_parts false b e = cc

-- ---- numbers below a bound

pub some_out : (p : ℕ → Bool) (n : ℕ) → some_below p n ≡ true → (k : ℕ) × (k < n) × (p k ≡ true)
some_out p zero e = cc
some_out p (suc n) e =
    elim (or_cases (p n) (some_below p n) e) [
      | inl here ↦ (n, omega arith, here)
      | inr before ↦ let h = some_out p n before in (h.0, let lt : h.0 < n = h.1 in omega (arith, lt), h.2)
    ]

count_step : (b : Bool) (k n : ℕ) → k ≤ n → (if b then suc k else k) ≤ suc n
count_step true k n le = omega (arith, le)
count_step false k n le = omega (arith, le)

count_within : (p : ℕ → Bool) (n : ℕ) → count_below p n ≤ n
count_within p zero = omega arith
count_within p (suc n) = count_step (p n) (count_below p n) n (count_within p n)

-- one leads to as many places as there are at most
pub reach_within : (e : ℕ → ℕ → Bool) (n i : ℕ) → reach_of e n i ≤ n
reach_within e n i = count_within (leads e n i) n

-- ---- what is listed as above a place, by a test that one number alone passes

pub above_in : (e : ℕ → ℕ → Bool) (n c d : ℕ) (f : ℕ → Bool) → f d ≡ true → d < n → leads e n c d ≡ true → list_any f (above e n c) ≡ true
unfolding above
above_in e n c d f h lt l =
    any_numbers f (leads e n c) n ∙ some_in (λ k. leads e n c k && f k) n d lt (both_true (leads e n c d) (f d) l h)

pub above_out : (e : ℕ → ℕ → Bool) (n c d : ℕ) (f : ℕ → Bool) → ((k : ℕ) → f k ≡ true → k ≡ d) → list_any f (above e n c) ≡ true
    → (d < n) × (leads e n c d ≡ true)
unfolding above
above_out e n c d f only h =
    let found = some_out (λ k. leads e n c k && f k) n (sym (any_numbers f (leads e n c) n) ∙ h) in
    let parts = and_parts (leads e n c found.0) (f found.0) found.2 in
    let same = only found.0 parts.1 in
    (subst (λ k. k < n) same found.1, subst (λ k. leads e n c k ≡ true) same parts.0)

-- ---- the first number that passes

pub find_none : (p : ℕ → Bool) (ks : List ℕ) → ((k : ℕ) → p k ≡ false) → find p ks ≡ None
find_none p [] h = refl
find_none p (k ∷ ks) h = ap (λ b. cond b (Some k) (find p ks)) (h k) ∙ find_none p ks h

passes_by : (p : ℕ → Bool) (x : ℕ) (xs : List ℕ) (k : ℕ) (b : Bool) → p x ≡ b → (find p xs ≡ Some k → p k ≡ true) → cond b (Some x) (find p xs) ≡ Some k → p k ≡ true
passes_by p x xs k true is rest e = subst (λ y. p y ≡ true) (same_Some x k e) is
passes_by p x xs k false is rest e = rest e

pub find_passes : (p : ℕ → Bool) (ks : List ℕ) (k : ℕ) → find p ks ≡ Some k → p k ≡ true
find_passes p [] k e = cc
find_passes p (x ∷ xs) k e = passes_by p x xs k (p x) refl (find_passes p xs k) e

next_or_here : (first j : ℕ) → first ≤ j → (first < j) ⊎ (first ≡ j)
next_or_here first j le = grind arith

only_by : (p : ℕ → Bool) (first count j : ℕ) → p j ≡ true → ((k : ℕ) → p k ≡ true → k ≡ j) → first ≤ j → (b : Bool) → p first ≡ b
    → (first < j → find p (range_with_len (first + 1) count) ≡ Some j) → cond b (Some first) (find p (range_with_len (first + 1) count)) ≡ Some j
only_by p first count j h only le true is rest = ap Some (only first is)
only_by p first count j h only le false is rest =
    elim (next_or_here first j le) [
      | inl less ↦ rest less
      | inr same ↦ absurd (let no' : false ≡ true = sym is ∙ ap p same ∙ h in cc)
    ]

pub find_only : (p : ℕ → Bool) (first count j : ℕ) → p j ≡ true → ((k : ℕ) → p k ≡ true → k ≡ j) → first ≤ j → j < first + count
    → find p (range_with_len first count) ≡ Some j
find_only p first zero j h only le lt = absurd (omega (arith, le, lt))
find_only p first (suc count) j h only le lt =
    only_by p first count j h only le (p first) refl (λ less. find_only p (first + 1) count j h only (omega (arith, less)) (omega (arith, lt)))

-- ---- what is near

near_first : (e : ℕ → ℕ → Bool) (n i j : ℕ) → is_near e n zero i j ≡ true → (i == j) ≡ true
unfolding is_near
near_first e n i j h = h

pub near_itself : (e : ℕ → ℕ → Bool) (n i : ℕ) → is_near e n zero i i ≡ true
unfolding is_near
near_itself e n i = eq-eqb i i refl

pub near_up : (e : ℕ → ℕ → Bool) (n d i j : ℕ) → is_near e n d i j ≡ true → is_near e n (suc d) i j ≡ true
unfolding is_near
near_up e n d i j h = or_left (is_near e n d i j) (some_below (λ k. is_near e n d i k && e k j) n) h

pub near_more : (e : ℕ → ℕ → Bool) (n d i k j : ℕ) → k < n → is_near e n d i k ≡ true → e k j ≡ true → is_near e n (suc d) i j ≡ true
unfolding is_near
near_more e n d i k j lt h edge =
    or_right (is_near e n d i j) (some_below (λ x. is_near e n d i x && e x j) n)
    (some_in (λ x. is_near e n d i x && e x j) n k lt (both_true (is_near e n d i k) (e k j) h edge))

pub near_later : (e : ℕ → ℕ → Bool) (n d more i j : ℕ) → is_near e n d i j ≡ true → is_near e n (d + more) i j ≡ true
near_later e n d zero i j h = let same : d ≡ d + zero = omega arith in subst (λ k. is_near e n k i j ≡ true) same h
near_later e n d (suc more) i j h =
    let same : suc (d + more) ≡ d + suc more = omega arith in
    subst (λ k. is_near e n k i j ≡ true) same (near_up e n (d + more) i j (near_later e n d more i j h))

-- a place that is near, and no nearer, is in the ring
abbrev pub in_ring : (ℕ → ℕ → Bool) → ℕ → ℕ → ℕ → ℕ → Bool
in_ring e n d i j = is_near e n (suc d) i j && not (is_near e n d i j)

ring_by : (e : ℕ → ℕ → Bool) (n d i k : ℕ) → k < n → is_near e n (suc d) i k ≡ true → (b : Bool) → is_near e n d i k ≡ b
    → (is_near e n d i k ≡ true → list_any (λ j. j == k) (rings e n d i) ≡ true)
    → (list_any (λ j. j == k) (rings e n d i) || list_any (λ j. j == k) (ring e n (suc d) i)) ≡ true
ring_by e n d i k lt h true is before = or_left (list_any (λ j. j == k) (rings e n d i)) (list_any (λ j. j == k) (ring e n (suc d) i)) (before is)
ring_by e n d i k lt h false is before =
    or_right (list_any (λ j. j == k) (rings e n d i)) (list_any (λ j. j == k) (ring e n (suc d) i))
    (any_numbers (λ j. j == k) (in_ring e n d i) n
    ∙ some_in (λ j. in_ring e n d i j && (j == k)) n k lt
    (both_true (in_ring e n d i k) (k == k) (both_true (is_near e n (suc d) i k) (not (is_near e n d i k)) h (ap not is)) (eq-eqb k k refl)))

rings_have : (e : ℕ → ℕ → Bool) (n d i k : ℕ) → k < n → is_near e n d i k ≡ true → list_any (λ j. j == k) (rings e n d i) ≡ true
rings_have e n zero i k lt h = or_left (i == k) false (near_first e n i k h)
rings_have e n (suc d) i k lt h =
    list_any-append (λ j. j == k) (rings e n d i) (ring e n (suc d) i) ∙ ring_by e n d i k lt h (is_near e n d i k) refl (rings_have e n d i k lt)

pub order_has : (e : ℕ → ℕ → Bool) (n i k : ℕ) → k < n → is_near e n n i k ≡ true → list_any (λ j. j == k) (order_of e n i) ≡ true
unfolding order_of
order_has e n i k lt h = rings_have e n n i k lt h

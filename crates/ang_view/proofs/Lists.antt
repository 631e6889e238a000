-- Tests of lists, pair by pair, through a map and over a range.
use Rattle.std.proofs.lemmas.Bool.Decides.{eqb_tells}
use Rattle.std.proofs.Common.{inl, inr, ◌≡◌, ℕ, zero, suc, ◌+◌, ◌<◌, ◌≤◌, Bool, true, false, cond, not, ◌&&◌, ◌||◌, List, [], ◌∷◌, map, length, filter, zip, Decides, refl, sym, ap, ◌∙◌, arith, position}
use Rattle.std.specs.List.{list_all, prefix_len, range_with_len}
use Rattle.std.specs.Cmp.Lexicographic.{pointwise}

pub list_all-zip : {A B : Type 0} (test : A → B → Bool) (xs : List A) (ys : List B) → length xs ≡ length ys → list_all (λ p. test p.0 p.1) (zip xs ys) ≡ pointwise test xs ys
list_all-zip test [] [] e = refl
list_all-zip test [] (y ∷ ys) e = absurd (omega (arith, e))
list_all-zip test (x ∷ xs) [] e = absurd (omega (arith, e))
list_all-zip test (x ∷ xs) (y ∷ ys) e = ap (λ b. test x y && b) (list_all-zip test xs ys (omega (arith, e)))

pub prefix_len-map : {X Y : Type 0} (p : Y → Bool) (h : X → Y) (xs : List X) → prefix_len p (map h xs) ≡ prefix_len (λ x. p (h x)) xs
prefix_len-map p h [] = refl
prefix_len-map p h (x ∷ xs) = ap (λ n. cond (p (h x)) (1 + n) 0) (prefix_len-map p h xs)

pub length-map : {X Y : Type 0} (h : X → Y) (xs : List X) → length (map h xs) ≡ length xs
length-map h [] = refl
length-map h (x ∷ xs) = ap suc (length-map h xs)

-- the first that passes, of a list that was mapped in place
pub position-map : {X Y : Type 0} (p : Y → Bool) (h : X → Y) (xs : List X) → position p (map h xs) ≡ position (λ x. p (h x)) xs
position-map p h xs = rw (prefix_len-map (λ y. not (p y)) h xs, length-map h xs)

pub or_false : (b c : Bool) → b ≡ false → (b || c) ≡ c
or_false true c e = cc
or_false false c e = refl

pub and_gives : (b c : Bool) → (b && c) ≡ true → (b ≡ true) × (c ≡ true)
and_gives true c e = (refl, e)
and_gives false c e = cc

pub and_from : (b c : Bool) → b ≡ true → c ≡ true → (b && c) ≡ true
and_from b c e f = cc

-- all numbers of a range that pass one test pass another
abbrev pub AllOf : (ℕ → Bool) → (ℕ → Bool) → ℕ → ℕ → Type 0
AllOf p q a n = (i : ℕ) → a ≤ i → i < a + n → p i ≡ true → q i ≡ true

head_gives : (b c : Bool) (rest : List ℕ) (a : ℕ) (q : ℕ → Bool) → list_all q (cond b (a ∷ rest) rest) ≡ true → (b ≡ true → q a ≡ true) × (list_all q rest ≡ true)
head_gives true c rest a q e = let r = and_gives (q a) (list_all q rest) e in (λ _. r.0, r.1)
head_gives false c rest a q e = (λ f. cc, e)

head_from : (b : Bool) (rest : List ℕ) (a : ℕ) (q : ℕ → Bool) → (b ≡ true → q a ≡ true) → list_all q rest ≡ true → list_all q (cond b (a ∷ rest) rest) ≡ true
head_from true rest a q f e = and_from (q a) (list_all q rest) (f refl) e
head_from false rest a q f e = e

at_head : (p q : ℕ → Bool) (a i : ℕ) → i ≡ a → (p a ≡ true → q a ≡ true) → p i ≡ true → q i ≡ true
at_head p q a i e here h = ap q e ∙ here (sym (ap p e) ∙ h)

tail_gives : (p q : ℕ → Bool) (a n : ℕ) → (p a ≡ true → q a ≡ true) → AllOf p q (a + 1) n → AllOf p q a (suc n)
tail_gives p q a n here later i low high h =
    elim (eqb_tells i a) [ inl e ↦ at_head p q a i e.1 here h | inr e ↦ later i (omega (arith, e.1)) (omega arith) h ]

-- a test of all that a filter keeps of a range
pub Decides-list_all-filter : (p q : ℕ → Bool) (a n : ℕ) → Decides (list_all q (filter p (range_with_len a n))) (AllOf p q a n)
Decides-list_all-filter p q a zero = (λ _ i low high h. absurd (omega arith), λ _. refl)
Decides-list_all-filter p q a (suc n) =
    let rest = filter p (range_with_len (a + 1) n) in
    let later = Decides-list_all-filter p q (a + 1) n in (
      λ e. let r = head_gives (p a) true rest a q e in tail_gives p q a n r.0 (later.0 r.1),
      λ f. head_from (p a) rest a q (f a (omega arith) (omega arith)) (later.1 (λ i low high h. f i (omega arith) (omega arith) h)),
    )

pub false_from : (b : Bool) → (b ≡ true → ⊥) → false ≡ b
false_from true f = absurd (f refl)
false_from false f = refl

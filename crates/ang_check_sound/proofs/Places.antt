-- Where items stand in a list: what is left of it after some of them, and what holds of each by its number.
use Rattle.std.specs.Prelude.{◌≡◌, ℕ, zero, suc, ◌+◌, Bool, true, false, if◌then◌else◌, cond, Contains, All, length, filter, List, [], ◌∷◌, ◌++◌, sum_by, slice_get, Some}
use Rattle.std.proofs.Common.{refl, ap, sym, ◌∙◌, subst, arith, append_assoc, append-nil, length-append}
use Rattle.std.proofs.lemmas.List.Elements.{All-nil, All-cons, Contains-append_right, filter-append}
use Rattle.std.proofs.lemmas.List.Sums.{sum_by-append}
use Rattle.std.proofs.lemmas.Option.{same_Some}
use Rattle.ang_tree.specs.Stmt.{Every}

-- ---- what is left after n items

abbrev pub Behind : (A : Type 0) → ℕ → List A → List A → Type 0
Behind A n xs rest = (front : List A) × (xs ≡ front ++ rest) × (length front ≡ n)

pub all_left : {A : Type 0} (xs : List A) → Behind A 0 xs xs
all_left xs = ([], refl, refl)

pub at_seam : {A : Type 0} (front : List A) (x : A) (rest : List A) → slice_get (front ++ x ∷ rest) (length front) ≡ Some x
at_seam [] x rest = refl
at_seam (y ∷ front) x rest = at_seam front x rest

-- the item that is next
pub next_item : {A : Type 0} (n : ℕ) (xs : List A) (x : A) (rest : List A) → Behind A n xs (x ∷ rest) → slice_get xs n ≡ Some x
next_item n xs x rest b =
    ap (λ zs. slice_get zs n) b.1 ∙ ap (λ k. slice_get (b.0 ++ x ∷ rest) k) (sym b.2) ∙ at_seam b.0 x rest

pub next_left : {A : Type 0} (n : ℕ) (xs : List A) (x : A) (rest : List A) → Behind A n xs (x ∷ rest) → Behind A (n + 1) xs rest
next_left n xs x rest b = (
  b.0 ++ x ∷ [],
  b.1 ∙ sym (append_assoc b.0 (x ∷ []) rest),
  let count : length b.0 ≡ n = b.2 in omega (arith, length-append b.0 (x ∷ [])),
)

pub none_left : {A : Type 0} (n : ℕ) (xs : List A) → Behind A n xs [] → length xs ≡ n
none_left n xs b = ap length (b.1 ∙ append-nil b.0) ∙ b.2

-- the same place
pub at_same : {A : Type 0} (xs : List A) (i k : ℕ) (a : A) → i ≡ k → slice_get xs i ≡ Some a → slice_get xs k ≡ Some a
at_same xs i k a e h = subst (λ q. slice_get xs q ≡ Some a) e h

-- ---- counts

pub sum_more : {A : Type 0} (f : A → ℕ) (before : List A) (x : A) (k : ℕ) → f x ≡ k → sum_by f before + k ≡ sum_by f (before ++ x ∷ [])
sum_more f before x k e = let one : f x ≡ k = e in omega (arith, sum_by-append f before (x ∷ []))

one_passes : {A : Type 0} (p : A → Bool) (x : A) (b : Bool) → p x ≡ b → length (filter p (x ∷ [])) ≡ (if b then 1 else 0)
one_passes p x true e = ap (λ c. length (cond c (x ∷ []) [])) e
one_passes p x false e = ap (λ c. length (cond c (x ∷ []) [])) e

pub counted : {A : Type 0} (p : A → Bool) (before : List A) (x : A) → p x ≡ true → length (filter p before) + 1 ≡ length (filter p (before ++ x ∷ []))
counted p before x e =
    let one : length (filter p (x ∷ [])) ≡ 1 = one_passes p x true e in
    let all = ap length (filter-append p before (x ∷ [])) ∙ length-append (filter p before) (filter p (x ∷ [])) in
    omega (arith, all, one)

pub not_counted : {A : Type 0} (p : A → Bool) (before : List A) (x : A) → p x ≡ false → length (filter p before) ≡ length (filter p (before ++ x ∷ []))
not_counted p before x e =
    let none : length (filter p (x ∷ [])) ≡ 0 = one_passes p x false e in
    let all = ap length (filter-append p before (x ∷ [])) ∙ length-append (filter p before) (filter p (x ∷ [])) in
    omega (arith, all, none)

-- ---- what holds of each item by its number, where the first one has this number

abbrev pub EachFrom : {A : Type 0} → (ℕ → A → Type 0) → ℕ → List A → Type 0
EachFrom P n [] = Unit {0}
EachFrom P n (x ∷ xs) = P n x × EachFrom P (n + 1) xs

from_place : {A : Type 0} (P : ℕ → A → Type 0) (n i : ℕ) (xs : List A) (a : A) → EachFrom P n xs → slice_get xs i ≡ Some a → P (n + i) a
from_place P n i [] a h e = cc
from_place P n zero (x ∷ xs) a h e =
    let there : n ≡ n + 0 = omega arith in subst (λ k. P k a) there (subst (P n) (same_Some x a e) h.0)
from_place P n (suc i) (x ∷ xs) a h e =
    let there : n + 1 + i ≡ n + suc i = omega arith in subst (λ k. P k a) there (from_place P (n + 1) i xs a h.1 e)

pub at_number : {A : Type 0} (P : ℕ → A → Type 0) (i : ℕ) (xs : List A) (a : A) → EachFrom P 0 xs → slice_get xs i ≡ Some a → P i a
at_number P i xs a h e = let there : 0 + i ≡ i = omega arith in subst (λ k. P k a) there (from_place P 0 i xs a h e)

-- ---- lists that have items

pub has_first : {A : Type 0} (x : A) (xs : List A) → Contains (x ∷ xs) x
has_first x xs = (0, omega arith, refl)

pub has_later : {A : Type 0} (y : A) (xs : List A) (x : A) → Contains xs x → Contains (y ∷ xs) x
has_later y xs x h = Contains-append_right (y ∷ []) xs x h

-- each item of the one is one of the other
abbrev pub IsIn : (A : Type 0) → List A → List A → Type 0
IsIn A xs ys = (x : A) → Contains xs x → Contains ys x

pub all_of_each : {A : Type 0} (P : A → Type 0) (xs : List A) → Every P xs → All P xs
all_of_each P [] h = All-nil P
all_of_each P (x ∷ xs) h = All-cons P x xs h.0 (all_of_each P xs h.1)

-- what stands in the second of two lists
pub in_second : {A : Type 0} (xs ys : List A) (n i : ℕ) (a : A) → length xs ≡ n → slice_get ys i ≡ Some a → slice_get (xs ++ ys) (n + i) ≡ Some a
in_second [] ys n i a count e =
    let there : i ≡ n + i = omega (arith, count) in subst (λ k. slice_get ys k ≡ Some a) there e
in_second (x ∷ xs) ys zero i a count e = let no : ⊥ = omega (arith, count) in absurd no
in_second (x ∷ xs) ys (suc n) i a count e =
    let there : suc (n + i) ≡ suc n + i = omega arith in
    subst (λ k. slice_get (x ∷ xs ++ ys) k ≡ Some a) there (in_second xs ys n i a (let less : length xs ≡ n = omega (arith, count) in less) e)

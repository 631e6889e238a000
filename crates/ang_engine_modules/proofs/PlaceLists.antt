-- Items put into lists.
use Rattle.std.proofs.Common.{◌≡◌, ◌<◌, refl, ap, ℕ, zero, suc, List, [], ◌∷◌, ◌++◌, length, arith, map, Some}
use Rattle.std.specs.Prelude.{slice_get, slice_index_or, slice_set}

-- an item put in the place of one of a list, seen through a function
pub map_set : {A B : Type 0} (f : A → B) (xs : List A) (i : ℕ) (x : A) → map f (slice_set xs i x) ≡ slice_set (map f xs) i (f x)
map_set f [] i x = refl
map_set f (y ∷ xs) zero x = refl
map_set f (y ∷ xs) (suc i) x = ap (λ ys. f y ∷ ys) (map_set f xs i x)

pub map_at : {A B : Type 0} (f : A → B) (xs : List A) (i : ℕ) (d : A) (e : B) → i < length xs → slice_index_or (map f xs) i e ≡ f (slice_index_or xs i d)
map_at f [] i d e lt = absurd (omega (arith, lt))
map_at f (x ∷ xs) zero d e lt = refl
map_at f (x ∷ xs) (suc i) d e lt = map_at f xs i d e (omega (arith, lt))

pub map_length : {A B : Type 0} (f : A → B) (xs : List A) → length (map f xs) ≡ length xs
map_length f [] = refl
map_length f (x ∷ xs) = ap suc (map_length f xs)

-- of two items put in one place the second stays
pub set_set : {A : Type 0} (xs : List A) (i : ℕ) (x y : A) → slice_set (slice_set xs i x) i y ≡ slice_set xs i y
set_set [] i x y = refl
set_set (z ∷ xs) zero x y = refl
set_set (z ∷ xs) (suc i) x y = ap (λ ys. z ∷ ys) (set_set xs i x y)

pub set_at : {A : Type 0} (xs : List A) (i : ℕ) (x d : A) → i < length xs → slice_index_or (slice_set xs i x) i d ≡ x
set_at [] i x d lt = absurd (omega (arith, lt))
set_at (y ∷ ys) zero x d lt = refl
set_at (y ∷ ys) (suc i) x d lt = set_at ys i x d (omega (arith, lt))

-- what stood there, put there again
pub set_same : {A : Type 0} (xs : List A) (i : ℕ) (d x : A) → i < length xs → x ≡ slice_index_or xs i d → slice_set xs i x ≡ xs
set_same [] i d x lt e = refl
set_same (y ∷ ys) zero d x lt e = ap (λ z. z ∷ ys) e
set_same (y ∷ ys) (suc i) d x lt e = ap (λ zs. y ∷ zs) (set_same ys i d x (omega (arith, lt)) e)

pub set_length : {A : Type 0} (xs : List A) (i : ℕ) (x : A) → length (slice_set xs i x) ≡ length xs
set_length [] i x = refl
set_length (y ∷ ys) zero x = refl
set_length (y ∷ ys) (suc i) x = ap suc (set_length ys i x)

-- what stands in a place does not depend on what would stand in none
pub any_default : {A : Type 0} (xs : List A) (i : ℕ) (d e : A) → i < length xs → slice_index_or xs i d ≡ slice_index_or xs i e
any_default [] i d e lt = absurd (omega (arith, lt))
any_default (y ∷ ys) zero d e lt = refl
any_default (y ∷ ys) (suc i) d e lt = any_default ys i d e (omega (arith, lt))

-- ---- items read through a function

pub get-map : {A B : Type 0} (h : A → B) (xs : List A) (n : ℕ) (x : A) → slice_get xs n ≡ Some x → slice_get (map h xs) n ≡ Some (h x)
get-map h [] n x e = cc
get-map h (y ∷ ys) zero x e = let same : y ≡ x = cc in ap (λ z. Some (h z)) same
get-map h (y ∷ ys) (suc n) x e = get-map h ys n x e

pub record IsFromMap {A B : Type 0} (h : A → B) (xs : List A) (n : ℕ) (y : B) : Type 0 where
  pub item : A
  pub at : slice_get xs n ≡ Some item
  pub same : h item ≡ y

pub map-get : {A B : Type 0} (h : A → B) (xs : List A) (n : ℕ) (y : B) → slice_get (map h xs) n ≡ Some y → IsFromMap h xs n y
map-get h [] n y e = absurd (cc)
map-get h (x ∷ xs) zero y e = record { item = x; at = refl; same = cc }
map-get h (x ∷ xs) (suc n) y e = let r = map-get h xs n y e in record { item = r.item; at = r.at; same = r.same }

pub get-front : {A : Type 0} (xs ys : List A) (n : ℕ) (x : A) → slice_get xs n ≡ Some x → slice_get (xs ++ ys) n ≡ Some x
get-front [] ys n x e = absurd (cc)
get-front (z ∷ xs) ys zero x e = e
get-front (z ∷ xs) ys (suc n) x e = get-front xs ys n x e

-- What holds of each item of a list, and of a value that is there or not.
use Rattle.std.specs.Prelude.{◌≡◌, ℕ, zero, suc, Bool, true, false, not, ◌&&◌, ◌||◌, if◌then◌else◌, cond, List, [], ◌∷◌, ◌++◌, filter, map, option_to_list, Option, Some, None, IfSome, slice_get}
use Rattle.std.specs.List.{flat_map}
use Rattle.std.proofs.Common.{refl, subst}
use Rattle.std.proofs.lemmas.Option.{same_Some}
use Rattle.ang_tree.specs.Stmt.{Every}

pub every_joined : {A : Type 0} (P : A → Type 0) (xs ys : List A) → Every P xs → Every P ys → Every P (xs ++ ys)
every_joined P [] ys h k = k
every_joined P (x ∷ xs) ys h k = (h.0, every_joined P xs ys h.1 k)

pub every_option : {A : Type 0} (P : A → Type 0) (o : Option A) → IfSome o P → Every P (option_to_list o)
every_option P None h = tt
every_option P (Some a) h = (h, tt)

pub every_mapped : {A B : Type 0} (P : A → Type 0) (Q : B → Type 0) (f : A → B) (xs : List A) → ((a : A) → P a → Q (f a))
    → Every P xs → Every Q (map f xs)
every_mapped P Q f [] g h = tt
every_mapped P Q f (x ∷ xs) g h = (g x h.0, every_mapped P Q f xs g h.1)

pub every_flat : {A B : Type 0} (P : B → Type 0) (f : A → List B) (xs : List A) → ((a : A) → Every P (f a)) → Every P (flat_map f xs)
every_flat P f [] g = tt
every_flat P f (x ∷ xs) g = every_joined P (f x) (flat_map f xs) (g x) (every_flat P f xs g)

-- where it follows for each item from what holds of it
pub every_flat_of : {A B : Type 0} (P : A → Type 0) (Q : B → Type 0) (f : A → List B) (xs : List A) → ((a : A) → P a → Every Q (f a))
    → Every P xs → Every Q (flat_map f xs)
every_flat_of P Q f [] g h = tt
every_flat_of P Q f (x ∷ xs) g h = every_joined Q (f x) (flat_map f xs) (g x h.0) (every_flat_of P Q f xs g h.1)

kept : {A : Type 0} (P : A → Type 0) (x : A) (xs : List A) (b : Bool) → P x → Every P xs → Every P (cond b (x ∷ xs) xs)
kept P x xs true h k = (h, k)
kept P x xs false h k = k

pub every_filter : {A : Type 0} (P : A → Type 0) (p : A → Bool) (xs : List A) → Every P xs → Every P (filter p xs)
every_filter P p [] h = tt
every_filter P p (x ∷ xs) h = kept P x (filter p xs) (p x) h.0 (every_filter P p xs h.1)

-- what follows of each item
pub every_other : {A : Type 0} (P Q : A → Type 0) (xs : List A) → ((a : A) → P a → Q a) → Every P xs → Every Q xs
every_other P Q [] g h = tt
every_other P Q (x ∷ xs) g h = (g x h.0, every_other P Q xs g h.1)

-- what holds at each place
pub every_placed : {A : Type 0} (P : A → Type 0) (xs : List A) → ((i : ℕ) (a : A) → slice_get xs i ≡ Some a → P a) → Every P xs
every_placed P [] g = tt
every_placed P (x ∷ xs) g = (g 0 x refl, every_placed P xs (λ i a e. g (suc i) a e))

-- the item at a place
pub every_at : {A : Type 0} (P : A → Type 0) (xs : List A) (i : ℕ) (a : A) → Every P xs → slice_get xs i ≡ Some a → P a
every_at P [] i a h e = cc
every_at P (x ∷ xs) zero a h e = subst P (same_Some x a e) h.0
every_at P (x ∷ xs) (suc i) a h e = every_at P xs i a h.1 e

-- where a test passes
pub tested : {A : Type 0} (P : A → Type 0) (b : Bool) (o : Option A) → (b ≡ true → IfSome o P) → IfSome (if b then o else None) P
tested P true o h = h refl
tested P false o h = tt

pub first_true : (a b : Bool) → (a && b) ≡ true → a ≡ true
first_true true b e = refl
first_true false b e = e

pub second_true : (a b : Bool) → (a && b) ≡ true → b ≡ true
second_true true b e = e
second_true false b e = cc

-- neither of two tests passes
pub two_false : (a b : Bool) → (a || b) ≡ false → (a ≡ false) × (b ≡ false)
two_false true b e = cc
two_false false b e = (refl, e)

pub not_true : (b : Bool) → not b ≡ true → b ≡ false
not_true true e = cc
not_true false e = refl

-- what stands in a list stands at its place with others after it
pub at_front : {A : Type 0} (xs ys : List A) (i : ℕ) (a : A) → slice_get xs i ≡ Some a → slice_get (xs ++ ys) i ≡ Some a
at_front [] ys i a e = cc
at_front (x ∷ xs) ys zero a e = e
at_front (x ∷ xs) ys (suc i) a e = at_front xs ys i a e

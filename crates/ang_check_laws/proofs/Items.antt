-- What holds of each item of a list.
use Rattle.std.specs.Prelude.{suc, Contains, List, [], ◌∷◌, ◌++◌, All, Option, Some, None, IfSome, option_to_list}
use Rattle.std.specs.List.{cons_option, filter_map, flat_map}
use Rattle.std.proofs.Common.{arith, refl}
use Rattle.std.proofs.lemmas.List.Elements.{All-nil, All-cons}
use Rattle.ang_tree.specs.Stmt.{Every}
use Rattle.ang_names_known.specs.Items.{each_after, list_or}

pub every_joined : {A : Type 0} (P : A → Type 0) (xs ys : List A) → Every P xs → Every P ys → Every P (xs ++ ys)
every_joined P [] ys h k = k
every_joined P (x ∷ xs) ys h k = (h.0, every_joined P xs ys h.1 k)

pub every_flat : {A B : Type 0} (P : B → Type 0) (f : A → List B) (xs : List A) → ((a : A) → Every P (f a)) → Every P (flat_map f xs)
every_flat P f [] g = tt
every_flat P f (x ∷ xs) g = every_joined P (f x) (flat_map f xs) (g x) (every_flat P f xs g)

every_option : {A : Type 0} (P : A → Type 0) (o : Option A) → IfSome o P → Every P (option_to_list o)
every_option P None h = tt
every_option P (Some a) h = (h, tt)

every_cons : {A : Type 0} (P : A → Type 0) (o : Option A) (xs : List A) → IfSome o P → Every P xs → Every P (cons_option o xs)
every_cons P None xs h k = k
every_cons P (Some a) xs h k = (h, k)

-- what some items give
pub every_given : {A B : Type 0} (P : B → Type 0) (f : A → Option B) (xs : List A) → Every (λ (a : A). IfSome (f a) P) xs → Every P (filter_map f xs)
every_given P f [] h = tt
every_given P f (x ∷ xs) h = every_cons P (f x) (filter_map f xs) h.0 (every_given P f xs h.1)

-- what each item gives, after those in front of it
pub every_after : {A B : Type 0} (P : B → Type 0) (f : List A → A → Option B) (before xs : List A) → ((front : List A) (a : A) → IfSome (f front a) P)
    → Every P (each_after (λ (front : List A) (a : A). option_to_list (f front a)) before xs)
every_after P f before [] g = tt
every_after P f before (x ∷ xs) g =
    every_joined P (option_to_list (f before x)) _ (every_option P (f before x) (g before x)) (every_after P f (before ++ x ∷ []) xs g)

pub every_or : {A : Type 0} (P : A → Type 0) (xs ys : List A) → Every P xs → Every P ys → Every P (list_or xs ys)
every_or P [] ys h k = k
every_or P (x ∷ xs) ys h k = h

pub all_of_each : {A : Type 0} (P : A → Type 0) (xs : List A) → Every P xs → All P xs
all_of_each P [] h = All-nil P
all_of_each P (x ∷ xs) h = All-cons P x xs h.0 (all_of_each P xs h.1)

-- ---- of a list's own items

first_in : {A : Type 0} (x : A) (xs : List A) → Contains (x ∷ xs) x
first_in x xs = (0, omega arith, refl)

later_in : {A : Type 0} (y x : A) (xs : List A) → Contains xs x → Contains (y ∷ xs) x
later_in y x xs c = (suc c.0, omega (arith, c.1), c.2)

pub every_flat_in : {A B : Type 0} (P : B → Type 0) (f : A → List B) (xs : List A) → ((a : A) → Contains xs a → Every P (f a)) → Every P (flat_map f xs)
every_flat_in P f [] g = tt
every_flat_in P f (x ∷ xs) g =
    every_joined P (f x) (flat_map f xs) (g x (first_in x xs)) (every_flat_in P f xs (λ a c. g a (later_in x a xs c)))

-- Lists that grow, and what is left of one.
use Rattle.std.proofs.Common.{◌≡◌, ◌<◌, ◌≤◌, ◌+◌, refl, ap, sym, ◌∙◌, ℕ, zero, suc, add-one, arith, List, [], ◌∷◌, ◌++◌, append_assoc, append-nil, length, get_or, drop, take, Option, Some, None, Result, Ok, Err, OnOk, option_to_list, map as list_map}
use Rattle.std.specs.Prelude.{slice_get, sum_by}
use Rattle.std.specs.List.{filter_map, cons_option}
use Rattle.std.proofs.lemmas.List.{map-append, take_more, take_all}
use Rattle.std.proofs.lemmas.List.Sums.{sum_by_push}
use Rattle.ang_names_known.specs.Items.{each_after}
use Rattle.ang_check.specs.Judging.{tail}

pub on_ok : {T E P Q : Type 0} (r : Result T E) → (P → Q) → OnOk r P → OnOk r Q
on_ok (Ok v) f p = f p
on_ok (Err e) f p = tt

-- ---- an item more

take_item : {S : Type 0} (ss : List S) (i : ℕ) (s : S) → i < length ss → s ≡ get_or ss i s → take (i + 1) ss ≡ take i ss ++ (s ∷ [])
take_item ss i s lt e = take_more ss i s lt ∙ ap (λ y. take i ss ++ (y ∷ [])) (sym e)

pub map_turn : {A S : Type 0} (v : S → A) (ss : List S) (i : ℕ) (s : S) → i < length ss → s ≡ get_or ss i s
    → list_map v (take (i + 1) ss) ≡ list_map v (take i ss) ++ (v s ∷ [])
map_turn v ss i s lt e = ap (list_map v) (take_item ss i s lt e) ∙ map-append v (take i ss) (s ∷ [])

pub map_all : {A S : Type 0} (v : S → A) (ss : List S) (i : ℕ) → length ss ≤ i → list_map v (take i ss) ≡ list_map v ss
map_all v ss i le = ap (list_map v) (take_all i ss le)

-- ---- what is chosen of a list

cons_on : {B : Type 0} (o : Option B) (xs ys : List B) → cons_option o (xs ++ ys) ≡ cons_option o xs ++ ys
cons_on None xs ys = refl
cons_on (Some b) xs ys = refl

filter_on : {A B : Type 0} (p : A → Option B) (xs ys : List A) → filter_map p (xs ++ ys) ≡ filter_map p xs ++ filter_map p ys
filter_on p [] ys = refl
filter_on p (x ∷ xs) ys = ap (cons_option (p x)) (filter_on p xs ys) ∙ cons_on (p x) (filter_map p xs) (filter_map p ys)

-- some and then some more
pub grown : {A B : Type 0} (p : A → Option B) (a b c : List B) (js ks : List A)
    → b ≡ a ++ filter_map p js → c ≡ b ++ filter_map p ks → c ≡ a ++ filter_map p (js ++ ks)
grown p a b c js ks f g =
    g ∙ ap (λ xs. xs ++ filter_map p ks) f ∙ append_assoc a (filter_map p js) (filter_map p ks)
    ∙ ap (λ xs. a ++ xs) (sym (filter_on p js ks))

pub cons_joins : {A : Type 0} (o : Option A) (xs : List A) → cons_option o xs ≡ option_to_list o ++ xs
cons_joins None xs = refl
cons_joins (Some a) xs = refl

one_of : {B : Type 0} (o : Option B) → option_to_list o ≡ cons_option o []
one_of None = refl
one_of (Some b) = refl

-- one more
pub grown_by_one : {A B : Type 0} (p : A → Option B) (a b : List B) (j : A) → b ≡ a ++ option_to_list (p j) → b ≡ a ++ filter_map p (j ∷ [])
grown_by_one p a b j e = e ∙ ap (λ xs. a ++ xs) (one_of (p j))

-- ---- what each item gives by those before it

pub each_on : {A B : Type 0} (f : List A → A → List B) (before xs ys : List A)
    → each_after f before (xs ++ ys) ≡ each_after f before xs ++ each_after f (before ++ xs) ys
each_on f before [] ys = ap (λ b. each_after f b ys) (sym (append-nil before))
each_on f before (x ∷ xs) ys =
    ap (λ l. f before x ++ l) (each_on f (before ++ x ∷ []) xs ys)
    ∙ ap (λ b. f before x ++ (each_after f (before ++ x ∷ []) xs ++ each_after f b ys)) (append_assoc before (x ∷ []) xs)
    ∙ sym (append_assoc (f before x) (each_after f (before ++ x ∷ []) xs) (each_after f (before ++ x ∷ xs) ys))

-- ---- what is left of a list

pub empty_is : {A : Type 0} (xs : List A) → length xs ≡ 0 → xs ≡ []
empty_is [] e = refl
empty_is (x ∷ xs) e = absurd (omega (arith, e))

pub tail_none : {A : Type 0} (xs : List A) → length xs ≡ 0 → xs ≡ tail xs
tail_none [] e = refl
tail_none (x ∷ xs) e = absurd (omega (arith, e))

pub drop_tail : {A : Type 0} (xs : List A) (n : ℕ) → drop (suc n) xs ≡ tail (drop n xs)
drop_tail [] zero = refl
drop_tail [] (suc n) = refl
drop_tail (x ∷ xs) zero = refl
drop_tail (x ∷ xs) (suc n) = drop_tail xs n

get_left : {A : Type 0} (xs : List A) (n : ℕ) → slice_get xs n ≡ slice_get (drop n xs) 0
get_left [] zero = refl
get_left [] (suc n) = refl
get_left (x ∷ xs) zero = refl
get_left (x ∷ xs) (suc n) = get_left xs n

-- the first of what is left, and what is left after it
pub first_left : {A : Type 0} (all left rest : List A) (x : A) (n : ℕ) → left ≡ x ∷ rest → left ≡ drop n all → slice_get all n ≡ Some x
first_left all left rest x n e l = get_left all n ∙ ap (λ xs. slice_get xs 0) (sym l ∙ e)

pub rest_left : {A : Type 0} (all left rest : List A) (x : A) (n : ℕ) → left ≡ x ∷ rest → left ≡ drop n all → rest ≡ drop (n + 1) all
rest_left all left rest x n e l = sym (ap (λ k. drop k all) (add-one n) ∙ drop_tail all n ∙ ap tail (sym l ∙ e))

-- where none is left
pub none_left : {A : Type 0} (all left : List A) (n : ℕ) → left ≡ [] → left ≡ drop n all → slice_get all n ≡ None
none_left all left n e l = get_left all n ∙ ap (λ xs. slice_get xs 0) (sym l ∙ e)

pub still_none : {A : Type 0} (all left : List A) (n : ℕ) → left ≡ [] → left ≡ drop n all → left ≡ drop (n + 1) all
still_none all left n e l = e ∙ sym (ap (λ k. drop k all) (add-one n) ∙ drop_tail all n ∙ ap tail (sym l ∙ e))

-- ---- how many stand before

pub counted : {A : Type 0} (f : A → ℕ) (xs : List A) (x : A) (n : ℕ) → f x ≡ n → sum_by f (xs ++ x ∷ []) ≡ sum_by f xs + n
counted f xs x n e = sum_by_push f xs x ∙ ap (λ k. sum_by f xs + k) e

pub not_counted : {A : Type 0} (f : A → ℕ) (xs : List A) (x : A) → f x ≡ 0 → sum_by f (xs ++ x ∷ []) ≡ sum_by f xs
not_counted f xs x e = omega (arith, sum_by_push f xs x, e)

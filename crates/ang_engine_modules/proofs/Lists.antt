-- Items of a list that are changed one after the other.
use Rattle.std.proofs.Common.{◌≡◌, ◌<◌, ◌≤◌, ◌+◌, ℕ, zero, suc, List, [], ◌∷◌, ◌++◌, length, take, drop, refl, sym, ap, ◌∙◌, subst, arith, map, append-nil}
use Rattle.std.proofs.lemmas.List.{drop_all, take_all}
use Rattle.std.specs.Prelude.{slice_index_or, slice_set}
use Rattle.std.specs.List.{AllZip}

-- an item that is put in place of one, seen through a function
pub mapped_set : {A B : Type 0} (f : A → B) (xs : List A) (i : ℕ) (x : A) → map f (slice_set xs i x) ≡ slice_set (map f xs) i (f x)
mapped_set f [] i x = refl
mapped_set f (y ∷ xs) zero x = refl
mapped_set f (y ∷ xs) (suc i) x = ap (λ l. f y ∷ l) (mapped_set f xs i x)

-- and one that the function sees as the one that stood there
pub kept_set : {A B : Type 0} (f : A → B) (xs : List A) (i : ℕ) (old x : A) → old ≡ slice_index_or xs i old → f x ≡ f old → map f (slice_set xs i x) ≡ map f xs
kept_set f [] i old x stood same = refl
kept_set f (y ∷ xs) zero old x stood same = ap (λ z. z ∷ map f xs) (same ∙ ap f stood)
kept_set f (y ∷ xs) (suc i) old x stood same = ap (λ l. f y ∷ l) (kept_set f xs i old x stood same)

-- the first n are changed
abbrev pub firsts : {A : Type 0} → (A → A) → ℕ → List A → List A
firsts f zero xs = xs
firsts f (suc n) [] = []
firsts f (suc n) (x ∷ xs) = f x ∷ firsts f n xs

one_first : {A : Type 0} (f : A → A) (n : ℕ) (xs : List A) (d x : A) → n < length xs → x ≡ f (slice_index_or (firsts f n xs) n d) → slice_set (firsts f n xs) n x ≡ firsts f (suc n) xs
one_first f n [] d x lt e = absurd (omega (arith, lt))
one_first f zero (y ∷ xs) d x lt e = ap (λ z. z ∷ xs) e
one_first f (suc n) (y ∷ xs) d x lt e = ap (λ l. f y ∷ l) (one_first f n xs d x (omega (arith, lt)) e)

-- one more is changed
pub next_first : {A : Type 0} (f : A → A) (n : ℕ) (xs ys : List A) (d x : A) → ys ≡ firsts f n xs → n < length xs → x ≡ f (slice_index_or ys n d) → slice_set ys n x ≡ firsts f (n + 1) xs
next_first f n xs ys d x so lt e =
    let next : suc n ≡ n + 1 = omega arith in
    ap (λ l. slice_set l n x) so ∙ one_first f n xs d x lt (e ∙ ap (λ l. f (slice_index_or l n d)) so) ∙ ap (λ k. firsts f k xs) next

pub all_first : {A : Type 0} (f : A → A) (n : ℕ) (xs : List A) → length xs ≤ n → firsts f n xs ≡ map f xs
all_first f n [] le = none f n
  where
    none : {A : Type 0} (f : A → A) (n : ℕ) → firsts f n [] ≡ []
    none f zero = refl
    none f (suc n) = refl
all_first f zero (x ∷ xs) le = absurd (omega (arith, le))
all_first f (suc n) (x ∷ xs) le = ap (λ l. f x ∷ l) (all_first f n xs (omega (arith, le)))

pub firsts_length : {A : Type 0} (f : A → A) (n : ℕ) (xs : List A) → length (firsts f n xs) ≡ length xs
firsts_length f zero xs = refl
firsts_length f (suc n) [] = refl
firsts_length f (suc n) (x ∷ xs) = ap suc (firsts_length f n xs)

-- the first n of two lists are in step, and the others the same
abbrev pub FirstsZip : {A : Type 0} → (A → A → Type 0) → ℕ → List A → List A → Type 0
FirstsZip P zero xs ys = xs ≡ ys
FirstsZip P (suc n) [] [] = Unit {0}
FirstsZip P (suc n) [] (y ∷ ys) = ⊥
FirstsZip P (suc n) (x ∷ xs) [] = ⊥
FirstsZip P (suc n) (x ∷ xs) (y ∷ ys) = P x y × FirstsZip P n xs ys

zip_one : {A : Type 0} (P : A → A → Type 0) (n : ℕ) (xs ys : List A) (d x : A) → n < length ys → FirstsZip P n xs ys → P (slice_index_or ys n d) x → FirstsZip P (suc n) xs (slice_set ys n x)
zip_one P zero xs [] d x lt h p = absurd (omega (arith, lt))
zip_one P zero [] (y ∷ ys) d x lt h p = absurd (cc)
zip_one P zero (z ∷ xs) (y ∷ ys) d x lt h p =
    let first : z ≡ y = cc in
    let rest : xs ≡ ys = cc in
    (subst (λ q. P q x) (sym first) p, rest)
zip_one P (suc n) [] [] d x lt h p = absurd (omega (arith, lt))
zip_one P (suc n) [] (y ∷ ys) d x lt h p = absurd h
zip_one P (suc n) (z ∷ xs) [] d x lt h p = absurd h
zip_one P (suc n) (z ∷ xs) (y ∷ ys) d x lt h p = (h.0, zip_one P n xs ys d x (omega (arith, lt)) h.1 p)

pub zip_long : {A : Type 0} (P : A → A → Type 0) (n : ℕ) (xs ys : List A) → FirstsZip P n xs ys → length ys ≡ length xs
zip_long P zero xs ys h = ap length (sym h)
zip_long P (suc n) [] [] h = refl
zip_long P (suc n) [] (y ∷ ys) h = absurd h
zip_long P (suc n) (x ∷ xs) [] h = absurd h
zip_long P (suc n) (x ∷ xs) (y ∷ ys) h = ap suc (zip_long P n xs ys h.1)

pub zip_next : {A : Type 0} (P : A → A → Type 0) (n : ℕ) (xs ys : List A) (d x : A) → n < length xs → FirstsZip P n xs ys → P (slice_index_or ys n d) x → FirstsZip P (n + 1) xs (slice_set ys n x)
zip_next P n xs ys d x lt h p =
    let next : suc n ≡ n + 1 = omega arith in
    subst (λ k. FirstsZip P k xs (slice_set ys n x)) next (zip_one P n xs ys d x (omega (arith, lt, zip_long P n xs ys h)) h p)

pub zip_all : {A : Type 0} (P : A → A → Type 0) (n : ℕ) (xs ys : List A) → length ys ≤ n → FirstsZip P n xs ys → AllZip P xs ys
zip_all P zero xs [] le h = subst (λ l. AllZip P l []) (sym h) tt
zip_all P zero xs (y ∷ ys) le h = absurd (omega (arith, le))
zip_all P (suc n) [] [] le h = tt
zip_all P (suc n) [] (y ∷ ys) le h = absurd h
zip_all P (suc n) (z ∷ xs) [] le h = absurd h
zip_all P (suc n) (z ∷ xs) (y ∷ ys) le h = (h.0, zip_all P n xs ys (omega (arith, le)) h.1)

-- ---- what a slice of a whole list leaves in it

pub left_whole : {A : Type 0} (len : ℕ) (ys old : List A) → length ys ≡ length old → len ≡ length old → take len (ys ++ drop (length ys) old) ≡ ys
left_whole len ys old same count =
    let none : drop (length ys) old ≡ [] = drop_all (length ys) old (omega (arith, same)) in
    ap (λ l. take len (ys ++ l)) none ∙ ap (take len) (append-nil ys) ∙ take_all len ys (omega (arith, same, count))

map_long : {A B : Type 0} (f : A → B) (xs : List A) → length (map f xs) ≡ length xs
map_long f [] = refl
map_long f (x ∷ xs) = ap suc (map_long f xs)

pub left_mapped : {A : Type 0} (f : A → A) (n len : ℕ) (ys now old : List A) → ys ≡ firsts f n now → now ≡ old → length now ≤ n → len ≡ length old → take len (ys ++ drop (length ys) old) ≡ map f old
left_mapped f n len ys now old so same le count =
    let all : ys ≡ map f old = so ∙ all_first f n now le ∙ ap (map f) same in
    left_whole len ys old (omega (arith, ap length all, map_long f old)) count ∙ all

pub left_zip : {A : Type 0} (P : A → A → Type 0) (n len : ℕ) (ys now old : List A) → FirstsZip P n now ys → now ≡ old → length now ≤ n → len ≡ length old
    → AllZip P old (take len (ys ++ drop (length ys) old))
left_zip P n len ys now old h same le count =
    let long = zip_long P n now ys h in
    subst (λ l. AllZip P old l) (sym (left_whole len ys old (omega (arith, long, ap length same)) count))
    (subst (λ l. AllZip P l ys) same (zip_all P n now ys (omega (arith, long, le)) h))

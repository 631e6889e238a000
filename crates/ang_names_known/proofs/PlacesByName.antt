-- The places of a name among some items: which of these pass a test that no item of another name passes, and how the places grow by an
-- item more.
use Rattle.std.specs.Prelude.{ℕ, suc, ◌≡◌, ◌+◌, cond, Bool, true, false, ◌&&◌, ◌||◌, List, [], ◌∷◌, ◌++◌, Option, Some, bytes_eq, length, map, slice_get}
use Rattle.std.specs.List.{list_any}
use Rattle.std.specs.Cmp.Lexicographic.{nat_list_eq_equiv}
use Rattle.std.proofs.Common.{arith, refl, sym, ap, ◌∙◌}
use Rattle.std.proofs.lemmas.List.{append-nil}
use Rattle.ang_names_known.specs.NameIndex.{places_from, places_of}

-- ---- what is found

-- of items of another name nothing is looked at, and none of them passes
one_any : (f : ℕ → Bool) (same rest_of_test r : Bool) (i : ℕ) (places : List ℕ) → f i ≡ (same && rest_of_test) → list_any f places ≡ r
    → list_any f (cond same (i ∷ places) places) ≡ ((same && rest_of_test) || r)
one_any f true rest_of_test r i places here rest = ap (λ c. c || list_any f places) here ∙ ap (λ c. rest_of_test || c) rest
one_any f false rest_of_test r i places here rest = rest

bytes_eq-sym : (xs ys : List ℕ) → bytes_eq xs ys ≡ bytes_eq ys xs
bytes_eq-sym xs ys = nat_list_eq_equiv.symm xs ys

-- A test passes what has the own name, and passes another one.
module _ {A : Type 0} (name_of : A → List ℕ) (own : List ℕ) (other : A → Bool) (test : Option A → Bool)
    (is : (x : A) → test (Some x) ≡ (bytes_eq own (name_of x) && other x)) (all : List A) where
  abbrev at : ℕ → Bool
  at n = test (slice_get all n)

  any_from : (xs : List A) (i : ℕ) → ((j : ℕ) → slice_get all (i + j) ≡ slice_get xs j)
      → list_any at (places_from i (map name_of xs) own) ≡ list_any (λ x. test (Some x)) xs
  any_from [] i stands = refl
  any_from (x ∷ xs) i stands =
      let first : i + 0 ≡ i = omega arith in
      let here : at i ≡ (bytes_eq own (name_of x) && other x) = ap at (sym first) ∙ ap test (stands 0) ∙ is x in
      let rest = places_from (i + 1) (map name_of xs) own in
      let later : list_any at rest ≡ list_any (λ y. test (Some y)) xs =
      any_from xs (i + 1) (λ j. let up : (i + 1) + j ≡ i + suc j = omega arith in ap (slice_get all) up ∙ stands (suc j)) in
      ap (λ b. list_any at (cond b (i ∷ rest) rest)) (bytes_eq-sym (name_of x) own)
      ∙ one_any at (bytes_eq own (name_of x)) (other x) (list_any (λ y. test (Some y)) xs) i rest here later
      ∙ ap (λ b. b || list_any (λ y. test (Some y)) xs) (sym (is x))

  pub all_among : (places : List ℕ) → places ≡ places_of (map name_of all) own → list_any (λ n. test (slice_get all n)) places ≡ list_any (λ x. test (Some x)) all
  all_among places e =
      ap (list_any at) e
      ∙ any_from all 0 (λ j. let first : 0 + j ≡ j = omega arith in ap (slice_get all) first)

-- ---- an item more

one_last : (b : Bool) (n m : ℕ) → n ≡ m → cond b (n ∷ []) [] ≡ cond b (m ∷ []) []
one_last b n m e = ap (λ k. cond b (k ∷ []) []) e

one_front : (b : Bool) (n : ℕ) (xs ys : List ℕ) → cond b (n ∷ (xs ++ ys)) (xs ++ ys) ≡ cond b (n ∷ xs) xs ++ ys
one_front true n xs ys = refl
one_front false n xs ys = refl

last_put : (b : Bool) (xs : List ℕ) (n : ℕ) → xs ++ cond b (n ∷ []) [] ≡ cond b (xs ++ n ∷ []) xs
last_put true xs n = refl
last_put false xs n = append-nil xs

module _ {A : Type 0} (name_of : A → List ℕ) where
  places_more : (n : ℕ) (xs : List A) (x : A) (name : List ℕ)
      → places_from n (map name_of (xs ++ x ∷ [])) name ≡ places_from n (map name_of xs) name ++ cond (bytes_eq (name_of x) name) ((n + length xs) ∷ []) []
  places_more n [] x name = let first : n ≡ n + 0 = omega arith in one_last (bytes_eq (name_of x) name) n (n + 0) first
  places_more n (y ∷ ys) x name =
      let up : (n + 1) + length ys ≡ n + suc (length ys) = omega arith in
      let last = cond (bytes_eq (name_of x) name) ((n + suc (length ys)) ∷ []) [] in
      let rest = places_from (n + 1) (map name_of ys) name in
      ap (λ ps. cond (bytes_eq (name_of y) name) (n ∷ ps) ps)
      (places_more (n + 1) ys x name ∙ ap (λ ps. rest ++ ps) (one_last (bytes_eq (name_of x) name) ((n + 1) + length ys) (n + suc (length ys)) up))
      ∙ one_front (bytes_eq (name_of y) name) n rest last

  -- the place of one item more is put in under its own name
  pub one_more_place : (xs all : List A) (x : A) (own name old new : List ℕ) → own ≡ name_of x → all ≡ xs ++ x ∷ [] → old ≡ places_of (map name_of xs) name
      → new ≡ cond (bytes_eq own name) (old ++ length xs ∷ []) old → new ≡ places_of (map name_of all) name
  one_more_place xs all x own name old new named grown has puts =
      let first : length xs ≡ 0 + length xs = omega arith in
      let before = places_of (map name_of xs) name in
      puts
      ∙ ap (λ y. cond (bytes_eq y name) (old ++ length xs ∷ []) old) named
      ∙ ap (λ ps. cond (bytes_eq (name_of x) name) (ps ++ length xs ∷ []) ps) has
      ∙ sym (last_put (bytes_eq (name_of x) name) before (length xs))
      ∙ ap (λ ps. before ++ ps) (one_last (bytes_eq (name_of x) name) (length xs) (0 + length xs) first)
      ∙ sym (places_more 0 xs x name)
      ∙ ap (λ ys. places_of (map name_of ys) name) (sym grown)

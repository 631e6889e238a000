-- The places of names, where each item of a list has one.
use Rattle.std.proofs.Common.{◌≡◌, ℕ, ◌+◌, ◌<◌, Bool, true, false, cond, List, [], ◌∷◌, ◌++◌, map, drop, get_or, length, Option, refl, sym, ap, ◌∙◌, position, bytes_eq}
use Rattle.std.proofs.lemmas.List.{append-nil, drop_more}
use Rattle.ang_names_known.specs.NameIndex.{first_place, places_from, places_of}
use Rattle.ang_names_known.proofs.NameIndex.{first_is}
use Rattle.ang_names_listed.specs.Declarations.{Declaring, family_name}

put_front : (xs : List ℕ) (n : ℕ) (rest : List ℕ) → xs ++ n ∷ rest ≡ (xs ++ n ∷ []) ++ rest
put_front [] n rest = refl
put_front (x ∷ xs) n rest = ap (λ r. x ∷ r) (put_front xs n rest)

one_put : (b : Bool) (xs : List ℕ) (n : ℕ) (rest : List ℕ) → xs ++ cond b (n ∷ rest) rest ≡ cond b (xs ++ n ∷ []) xs ++ rest
one_put true xs n rest = put_front xs n rest
one_put false xs n rest = refl

module _ {A : Type 0} (name_of : A → List ℕ) where
  -- the places of a name from item n on
  abbrev pub places_on : List A → ℕ → List ℕ → List ℕ
  places_on xs n name = places_from n (map name_of (drop n xs)) name

  pub place_more : (xs : List A) (x : A) (n : ℕ) (name own first old new : List ℕ) → n < length xs → x ≡ get_or xs n x
      → own ≡ name_of x → new ≡ cond (bytes_eq own name) (old ++ n ∷ []) old → first ≡ old ++ places_on xs n name
      → first ≡ new ++ places_on xs (n + 1) name
  place_more xs x n name own first old new lt is named puts so_far =
      so_far
      ∙ ap (λ ys. old ++ places_from n (map name_of ys) name) (drop_more xs n x lt)
      ∙ one_put (bytes_eq (name_of (get_or xs n x)) name) old n (places_on xs (n + 1) name)
      ∙ ap (λ y. cond (bytes_eq (name_of y) name) (old ++ n ∷ []) old ++ places_on xs (n + 1) name) (sym is)
      ∙ ap (λ y. cond (bytes_eq y name) (old ++ n ∷ []) old ++ places_on xs (n + 1) name) (sym named)
      ∙ ap (λ ys. ys ++ places_on xs (n + 1) name) (sym puts)

  pub places_end : (xs : List A) (n : ℕ) (name found : List ℕ) → drop n xs ≡ [] → found ++ places_on xs n name ≡ found
  places_end xs n name found e = ap (λ l. found ++ places_from n (map name_of l) name) e ∙ append-nil found

pub place_is : (ds : List Declaring) (name places : List ℕ) (r : Option ℕ) → r ≡ first_place places → places ≡ places_of (map family_name ds) name
    → r ≡ position (λ (d : Declaring). bytes_eq (family_name d) name) ds
place_is ds name places r is e = is ∙ ap first_place e ∙ first_is family_name name ds

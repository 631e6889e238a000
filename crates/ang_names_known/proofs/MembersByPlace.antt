-- Members of families by the places of their names.
use Rattle.std.proofs.Common.{◌≡◌, ℕ, zero, suc, ◌+◌, ◌<◌, ◌≤◌, ◌==◌, ◌≢◌, Bool, true, false, cond, not, ◌||◌, List, [], ◌∷◌, ◌++◌, map, length, take, get_or, Option, Some, None, refl, sym, ap, ◌∙◌, arith, bytes_eq}
use Rattle.std.specs.Prelude.{find, option_and_then, option_map, option_to_list, slice_get}
use Rattle.std.specs.List.{list_any, position_from}
use Rattle.std.specs.Option.{option_map_or}
use Rattle.std.proofs.lemmas.Bool.{eqb-true, eqb-false}
use Rattle.std.proofs.lemmas.List.{append-nil, take_more, length-take-le}
use Rattle.ang_names_known.specs.declared.names.Family.{Family}
use Rattle.ang_names_known.specs.declared.names.Field.{Field}
use Rattle.ang_names_known.specs.declared.names.FoundField.{FoundField}
use Rattle.ang_names_known.specs.declared.names.ScriptMethod.{ScriptMethod}
use Rattle.ang_names_known.specs.Lookup.{declares_method, field_of, fields_in}
use Rattle.ang_names_known.specs.NameIndex.{field_names, first_place, method_names, places_from, places_of}
use Rattle.ang_names_known.specs.Nearest.{at_places, methods_declared, named_among, of_owner}
use Rattle.ang_names_known.proofs.NameIndex.{any_step, first_from, is_some_place, not_empty}

-- ---- one family more

module _ {A : Type 0} where
  past_seam : (xs : List A) (x : A) (k : ℕ) → length xs ≢ k → slice_get (xs ++ x ∷ []) k ≡ slice_get xs k
  past_seam [] x zero other = absurd (other refl)
  past_seam [] x (suc k) other = refl
  past_seam (y ∷ xs) x zero other = refl
  past_seam (y ∷ xs) x (suc k) other = past_seam xs x k (λ e. other (ap suc e))

  at_seam : (xs : List A) (x : A) → slice_get (xs ++ x ∷ []) (length xs) ≡ Some x
  at_seam [] x = refl
  at_seam (y ∷ xs) x = at_seam xs x

  behind : (xs : List A) → slice_get xs (length xs) ≡ None
  behind [] = refl
  behind (y ∷ xs) = behind xs

module _ (names : Option Family → List (List ℕ)) (empty : names None ≡ []) where
  seam : (fs : List Family) (f : Family) (n c : ℕ) (name old new : List ℕ) → length fs ≡ n
      → new ≡ old ++ cond (n == c) (places_of (names (Some f)) name) []
      → old ≡ places_of (names (slice_get fs c)) name
      → new ≡ places_of (names (slice_get (fs ++ f ∷ []) c)) name
  seam fs f n c name old new many puts so_far = by (n == c) refl puts
    where
      by : (b : Bool) → (n == c) ≡ b → new ≡ old ++ cond b (places_of (names (Some f)) name) [] → new ≡ places_of (names (slice_get (fs ++ f ∷ []) c)) name
      by false e more =
          more ∙ append-nil old ∙ so_far
          ∙ ap (λ o. places_of (names o) name) (sym (past_seam fs f c (λ s. eqb-false n c e (sym many ∙ s))))
      by true e more =
          let at : c ≡ length fs = sym (many ∙ eqb-true n c e) in
          more
          ∙ ap (λ xs. xs ++ places_of (names (Some f)) name)
          (so_far ∙ ap (λ k. places_of (names (slice_get fs k)) name) at ∙ ap (λ o. places_of (names o) name) (behind fs) ∙ ap (λ xs. places_of xs name) empty)
          ∙ ap (λ o. places_of (names o) name) (sym (at_seam fs f))
          ∙ ap (λ k. places_of (names (slice_get (fs ++ f ∷ []) k)) name) (sym at)

  pub family_more : (fs : List Family) (n c : ℕ) (f : Family) (name old new : List ℕ) → n < length fs → f ≡ get_or fs n f
      → new ≡ old ++ cond (n == c) (places_of (names (Some f)) name) []
      → old ≡ places_of (names (slice_get (take n fs) c)) name
      → new ≡ places_of (names (slice_get (take (n + 1) fs) c)) name
  family_more fs n c f name old new lt is puts so_far =
      let inside : n ≤ length fs = omega arith in
      seam (take n fs) f n c name old new (length-take-le n fs inside) puts so_far
      ∙ ap (λ xs. places_of (names (slice_get xs c)) name) (ap (λ y. take n fs ++ y ∷ []) is ∙ sym (take_more fs n f lt))

-- ---- what is looked for

module _ {A : Type 0} (p : A → Bool) where
  found_from : (n : ℕ) (all xs : List A) → ((j : ℕ) → slice_get all (n + j) ≡ slice_get xs j) → option_and_then (slice_get all) (position_from p n xs) ≡ find p xs
  found_from n all [] stands = refl
  found_from n all (x ∷ xs) stands =
      let first : n + 0 ≡ n = omega arith in
      let here : slice_get all n ≡ Some x = ap (slice_get all) (sym first) ∙ stands 0 in
      by (p x) here (found_from (n + 1) all xs (λ j. let up : (n + 1) + j ≡ n + suc j = omega arith in ap (slice_get all) up ∙ stands (suc j)))
    where
      by : (b : Bool) → slice_get all n ≡ Some x → option_and_then (slice_get all) (position_from p (n + 1) xs) ≡ find p xs
          → option_and_then (slice_get all) (cond b (Some n) (position_from p (n + 1) xs)) ≡ cond b (Some x) (find p xs)
      by true here later = here
      by false here later = later

from_start : {A : Type 0} (xs : List A) (j : ℕ) → slice_get xs (0 + j) ≡ slice_get xs j
from_start xs j = let first : 0 + j ≡ j = omega arith in ap (slice_get xs) first

pub field_is : (o : Option Family) (n : ℕ) (name places : List ℕ) (place : Option ℕ) (found : Option FoundField)
    → places ≡ places_of (field_names o) name → place ≡ first_place places → found ≡ option_map (field_of n) (option_and_then (slice_get (fields_in o)) place)
    → found ≡ option_map (field_of n) (find (λ (x : Field). bytes_eq x.name name) (fields_in o))
field_is o n name places place found row first is =
    is
    ∙ ap (λ r. option_map (field_of n) (option_and_then (slice_get (fields_in o)) r)) (first ∙ ap first_place row ∙ first_from (λ (x : Field). x.name) name 0 (fields_in o))
    ∙ ap (option_map (field_of n)) (found_from (λ (x : Field). bytes_eq x.name name) 0 (fields_in o) (fields_in o) (from_start (fields_in o)))

any_among : (name : List ℕ) (n : ℕ) (ms : List ScriptMethod)
    → is_some_place (places_from n (map (λ (m : ScriptMethod). m.function.name) ms) name) ≡ list_any (λ (m : ScriptMethod). bytes_eq m.function.name name) ms
any_among name n [] = refl
any_among name n (m ∷ ms) =
    any_step (bytes_eq m.function.name name) n (places_from (n + 1) (map (λ (x : ScriptMethod). x.function.name) ms) name)
    ∙ ap (λ b. bytes_eq m.function.name name || b) (any_among name (n + 1) ms)

pub any_method_is : (o : Option Family) (n : ℕ) (name places : List ℕ) → places ≡ places_of (method_names o) name
    → not (length places == 0) ≡ option_map_or (λ (f : Family). declares_method name (n, f)) o false
any_method_is None n name places row = not_empty places ∙ ap is_some_place row
any_method_is (Some f) n name places row = not_empty places ∙ ap is_some_place row ∙ any_among name 0 f.methods

named_from : (n : ℕ) (name : List ℕ) (all : List ScriptMethod) (k : ℕ) (ms : List ScriptMethod) → ((j : ℕ) → slice_get all (k + j) ≡ slice_get ms j)
    → at_places n all (places_from k (map (λ (m : ScriptMethod). m.function.name) ms) name) ≡ named_among name n ms
named_from n name all k [] stands = refl
named_from n name all k (m ∷ ms) stands =
    let first : k + 0 ≡ k = omega arith in
    let here : slice_get all k ≡ Some m = ap (slice_get all) (sym first) ∙ stands 0 in
    by (bytes_eq m.function.name name) here (named_from n name all (k + 1) ms (λ j. let up : (k + 1) + j ≡ k + suc j = omega arith in ap (slice_get all) up ∙ stands (suc j)))
  where
    rest : List ℕ
    rest = places_from (k + 1) (map (λ (x : ScriptMethod). x.function.name) ms) name

    by : (b : Bool) → slice_get all k ≡ Some m → at_places n all rest ≡ named_among name n ms
        → at_places n all (cond b (k ∷ rest) rest) ≡ cond b (of_owner n m ∷ named_among name n ms) (named_among name n ms)
    by true here later = ap (λ o. option_to_list (option_map (of_owner n) o) ++ at_places n all rest) here ∙ ap (λ xs. of_owner n m ∷ xs) later
    by false here later = later

pub methods_are : (o : Option Family) (n : ℕ) (name places : List ℕ) → places ≡ places_of (method_names o) name
    → at_places n (methods_declared o) places ≡ named_among name n (methods_declared o)
methods_are o n name places row = ap (at_places n (methods_declared o)) row ∙ named_from n name (methods_declared o) 0 (methods_declared o) (from_start (methods_declared o))

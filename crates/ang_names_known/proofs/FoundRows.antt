-- The rows of methods that were found.
use Rattle.std.proofs.Common.{◌≡◌, ℕ, zero, suc, List, [], map, Option, Some, None, refl, sym, ap, ◌∙◌}
use Rattle.std.specs.Prelude.{slice_get, option_map}
use Rattle.std.proofs.lemmas.Option.{same_Some, slice_get-map}
use Rattle.ang_names_known.specs.declared.methods.MethodPlace.{MethodPlace}
use Rattle.ang_names_known.specs.declared.names.Family.{Family}
use Rattle.ang_names_known.specs.declared.names.ScriptMethod.{ScriptMethod}
use Rattle.ang_names_known.specs.Kinds.{Kind, Rows, Says, kinds_of, method_params, numbered, params_on, told_of}
use Rattle.ang_names_known.specs.KindRows.{row_at}
use Rattle.ang_names_known.specs.Lookup.{FoundMethod}
use Rattle.ang_names_known.specs.MethodPlaces.{AreFound, found_in}
use Rattle.ang_names_known.specs.Nearest.{methods_declared, of_owner}
use Rattle.ang_names_known.specs.Numbering.{AreMethodRows}
use Rattle.ang_names_known.proofs.KeptNumbers.{says_method}
use Rattle.ang_names_known.proofs.MethodPlaces.{get_found, none_found}

-- the parameters of a method at a place
with_params : (t n : ℕ) (o : Option ScriptMethod) → option_map (λ (m : FoundMethod). params_on t m.method) (option_map (of_owner n) o) ≡ option_map (params_on t) o
with_params t n None = refl
with_params t n (Some m) = refl

-- no method is found there
pub says_no_method : (t : ℕ) (kinds : List Kind) (fs : List Family) (ps : List MethodPlace) (n : ℕ) → AreFound fs ps → slice_get ps n ≡ None
    → Says t kinds None (option_map (λ (m : FoundMethod). params_on t m.method) (slice_get (found_in fs ps) n))
says_no_method t kinds fs ps n are none = sym (ap (λ o. option_map (map Some) (option_map (λ (m : FoundMethod). params_on t m.method) o)) (none_found fs ps n are none))

-- one is found, and the rows of its family are there
pub says_found : (t : ℕ) (kinds : List Kind) (tables : List Rows) (fs : List Family) (ps : List MethodPlace) (n : ℕ) (at : MethodPlace) (rows : Rows) (row : Option (List ℕ))
    → AreFound fs ps → AreMethodRows kinds tables fs → slice_get ps n ≡ Some at → slice_get tables at.owner ≡ Some rows → row ≡ row_at rows at.place
    → Says t kinds row (option_map (λ (m : FoundMethod). params_on t m.method) (slice_get (found_in fs ps) n))
says_found t kinds tables fs ps n at rows row are tables_are here table is =
    says_method t kinds rows (methods_declared (slice_get fs at.owner)) at.place row (by (slice_get fs at.owner) said) is
    ∙ ap (option_map (map Some)) (sym (with_params t at.owner (slice_get (methods_declared (slice_get fs at.owner)) at.place)))
    ∙ ap (λ o. option_map (map Some) (option_map (λ (m : FoundMethod). params_on t m.method) o)) (get_found fs ps n at are here)
  where
    said : Some (kinds_of (numbered t kinds) rows) ≡ option_map (λ (f : Family). told_of (method_params t f.methods)) (slice_get fs at.owner)
    said =
        ap (option_map (kinds_of (numbered t kinds))) (sym table)
        ∙ sym (slice_get-map (kinds_of (numbered t kinds)) tables at.owner)
        ∙ ap (λ xs. slice_get xs at.owner) (tables_are t)
        ∙ slice_get-map (λ (f : Family). told_of (method_params t f.methods)) fs at.owner

    by : (o : Option Family) → Some (kinds_of (numbered t kinds) rows) ≡ option_map (λ (f : Family). told_of (method_params t f.methods)) o
        → kinds_of (numbered t kinds) rows ≡ told_of (method_params t (methods_declared o))
    by None e = cc
    by (Some f) e = same_Some (kinds_of (numbered t kinds) rows) (told_of (method_params t f.methods)) e

none_declared : (owner k : ℕ) → option_map (of_owner owner) (slice_get [] k) ≡ None
none_declared owner zero = refl
none_declared owner (suc k) = refl

-- the rows of its family are not there: then it is not found
pub says_no_rows : (t : ℕ) (kinds : List Kind) (tables : List Rows) (fs : List Family) (ps : List MethodPlace) (n : ℕ) (at : MethodPlace)
    → AreFound fs ps → AreMethodRows kinds tables fs → slice_get ps n ≡ Some at → slice_get tables at.owner ≡ None
    → Says t kinds None (option_map (λ (m : FoundMethod). params_on t m.method) (slice_get (found_in fs ps) n))
says_no_rows t kinds tables fs ps n at are tables_are here none =
    sym (ap (λ o. option_map (map Some) (option_map (λ (m : FoundMethod). params_on t m.method) o)) (sym (get_found fs ps n at are here) ∙ nothing (slice_get fs at.owner) said))
  where
    said : None ≡ option_map (λ (f : Family). told_of (method_params t f.methods)) (slice_get fs at.owner)
    said =
        ap (option_map (kinds_of (numbered t kinds))) (sym none)
        ∙ sym (slice_get-map (kinds_of (numbered t kinds)) tables at.owner)
        ∙ ap (λ xs. slice_get xs at.owner) (tables_are t)
        ∙ slice_get-map (λ (f : Family). told_of (method_params t f.methods)) fs at.owner

    nothing : (o : Option Family) → None ≡ option_map (λ (f : Family). told_of (method_params t f.methods)) o
        → option_map (of_owner at.owner) (slice_get (methods_declared o) at.place) ≡ None
    nothing None e = none_declared at.owner at.place
    nothing (Some f) e = cc

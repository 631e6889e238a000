-- The families of scripts by name.
use Rattle.std.proofs.Common.{◌≡◌, ℕ, ◌+◌, cond, List, [], ◌∷◌, map, Some, refl, sym, ◌∙◌, position, bytes_eq}
use Rattle.std.specs.List.{position_from}
use Rattle.std.specs.Cmp.Lexicographic.{nat_list_eq_equiv}
use Rattle.std.proofs.lemmas.Iterator.Adapters.{position_from-zero}
use Rattle.ang_names_known.specs.declared.names.Family.{Family}

named_from : (fs : List Family) (name : List ℕ) (n : ℕ)
    → position_from (bytes_eq name) n (map (λ (f : Family). f.name) fs) ≡ position_from (λ (f : Family). bytes_eq f.name name) n fs
named_from [] name n = refl
named_from (f ∷ fs) name n =
    let rest = named_from fs name (n + 1) in
    λ i. cond (nat_list_eq_equiv.symm name f.name i) (Some n) (rest i)

-- the first family of a name, and the first of the families' names that is this one
pub named_is : (fs : List Family) (name : List ℕ)
    → position (bytes_eq name) (map (λ (f : Family). f.name) fs) ≡ position (λ (f : Family). bytes_eq f.name name) fs
named_is fs name =
    position_from-zero (bytes_eq name) (map (λ (f : Family). f.name) fs) ∙ named_from fs name 0
    ∙ sym (position_from-zero (λ (f : Family). bytes_eq f.name name) fs)

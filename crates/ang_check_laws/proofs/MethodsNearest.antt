-- A method that is found of a family is the first of its slot in its own family.
use Rattle.std.specs.Prelude.{◌≡◌, ℕ, true, List, [], ◌∷◌, filter, bytes_eq, Some, slice_get}
use Rattle.std.proofs.Common.{ap, ◌∙◌}
use Rattle.std.proofs.lemmas.Bool.{eqb-true}
use Rattle.ang_tree.specs.Stmt.{Every}
use Rattle.ang_names_known.specs.declared.names.Family.{Family}
use Rattle.ang_names_known.specs.declared.names.ScriptMethod.{ScriptMethod}
use Rattle.ang_names_known.specs.Lookup.{FoundMethod, methods_of, methods_named, kin_of, stands_in, is_named}
use Rattle.ang_check_sound.proofs.Items.{every_other}
use Rattle.ang_check_laws.specs.Methods.{AreAlike}
use Rattle.ang_check_laws.proofs.Found.{OrdersAreUnder, IsFound, IsKin, all_found, kin_is, named_found}
use Rattle.ang_check_laws.proofs.MethodsFound.{IsFirstOf, IsNearest, in_kin, nearest_first, first_of_all, kept_passes}

-- methods of one slot among these are of one name
abbrev pub NamesAlike : List Family → Type 0
NamesAlike fs = (c d i j : ℕ) (f g : Family) (x y : ScriptMethod) → slice_get fs c ≡ Some f → slice_get f.methods i ≡ Some x → slice_get fs d ≡ Some g
    → slice_get g.methods j ≡ Some y → x.slot ≡ y.slot → AreAlike x.function y.function

module _ (fs : List Family) (orders : OrdersAreUnder fs) (alike : NamesAlike fs) (c : ℕ) where
  named_alike : (name : List ℕ) (x : FoundMethod) → IsFound fs orders c x → is_named name x ≡ true → Every (λ y. stands_in x.method.slot y ≡ true → is_named name y ≡ true) (methods_of fs c)
  named_alike name x h is =
      every_other (IsFound fs orders c) (λ y. stands_in x.method.slot y ≡ true → is_named name y ≡ true) (methods_of fs c)
      (λ y k same.
      ap (λ n. bytes_eq n name)
      (alike y.owner x.owner k.number h.number k.family h.family y.method x.method k.there k.method h.there h.method (eqb-true y.method.slot x.method.slot same)).name ∙ is)
      (all_found fs orders c)

  first_in_own : (name : List ℕ) (x : FoundMethod) → IsFound fs orders c x → is_named name x ≡ true → IsNearest (filter (is_named name) (methods_of fs c)) x
      → IsFirstOf (IsKin fs orders c) x.method.slot x
  unfolding methods_of
  first_in_own name x h is near =
      in_kin (IsKin fs orders c) x.method.slot x (kin_of fs c) (kin_is fs orders c)
      (first_of_all (stands_in x.method.slot) (is_named name) x (methods_of fs c) (named_alike name x h is) near)

  each_first : (name : List ℕ) (xs : List FoundMethod) → Every (IsFound fs orders c) xs → Every (IsNearest (filter (is_named name) (methods_of fs c))) xs
      → Every (λ (x : FoundMethod). IsFirstOf (IsKin fs orders c) x.method.slot x) xs
  each_first name [] found near = tt
  each_first name (x ∷ xs) found near =
      let is = kept_passes (stands_in x.method.slot) (is_named name) x (methods_of fs c) near.0 in
      (first_in_own name x found.0 is near.0, each_first name xs found.1 near.1)

  pub named_first : (name : List ℕ) → Every (λ (x : FoundMethod). IsFirstOf (IsKin fs orders c) x.method.slot x) (methods_named fs c name)
  unfolding methods_named
  named_first name =
      each_first name (methods_named fs c name) (named_found fs orders c name) (nearest_first [] (filter (is_named name) (methods_of fs c)))

-- The first function with a heading is the first with it among those of its name.
use Rattle.std.proofs.Common.{◌≡◌, ℕ, suc, ◌+◌, Bool, true, false, cond, ◌&&◌, List, [], ◌∷◌, Option, Some, refl, sym, ap, ◌∙◌, arith, bytes_eq}
use Rattle.std.specs.Prelude.{slice_get}
use Rattle.std.specs.List.{position_from}
use Rattle.std.specs.Cmp.Lexicographic.{nat_list_eq_equiv}
use Rattle.std.proofs.lemmas.Iterator.Adapters.{position_from-zero}
use Rattle.ang_names_known.specs.declared.names.ScriptFunction.{ScriptFunction}
use Rattle.ang_names_known.specs.Headings.{has_heading, heading_among, heads}
use Rattle.ang_names_known.specs.Lookup.{function_with, functions_named, named_from, same_call, same_heading}

-- a function of another name has another heading
of_name : (b c d : Bool) (n : ℕ) (found rest : Option ℕ) → (d ≡ true → c ≡ true) → d ≡ b → found ≡ rest
    → cond c (cond b (Some n) found) found ≡ cond d (Some n) rest
of_name true true true n found rest h e same = refl
of_name true false true n found rest h e same = let no' : false ≡ true = h refl in cc
of_name true c false n found rest h e same = cc
of_name false c true n found rest h e same = cc
of_name false true false n found rest h e same = same
of_name false false false n found rest h e same = same

and_first : (b c : Bool) → (b && c) ≡ true → b ≡ true
and_first true c e = refl
and_first false c e = cc

among_step : (fs : List ScriptFunction) (wanted : ScriptFunction) (b : Bool) (n : ℕ) (ns : List ℕ)
    → heading_among fs wanted (cond b (n ∷ ns) ns) ≡ cond b (cond (has_heading fs wanted n) (Some n) (heading_among fs wanted ns)) (heading_among fs wanted ns)
among_step fs wanted true n ns = refl
among_step fs wanted false n ns = refl

module _ (all : List ScriptFunction) (wanted : ScriptFunction) where
  headings_from : (n : ℕ) (fs : List ScriptFunction) → ((j : ℕ) → slice_get all (n + j) ≡ slice_get fs j)
      → heading_among all wanted (named_from n fs wanted.name) ≡ position_from (same_heading wanted) n fs
  headings_from n [] stands = refl
  headings_from n (f ∷ fs) stands =
      let first : n + 0 ≡ n = omega arith in
      let here : slice_get all n ≡ Some f = ap (slice_get all) (sym first) ∙ stands 0 in
      let rest = headings_from (n + 1) fs (λ j. let up : (n + 1) + j ≡ n + suc j = omega arith in ap (slice_get all) up ∙ stands (suc j)) in
      among_step all wanted (bytes_eq f.name wanted.name) n (named_from (n + 1) fs wanted.name)
      ∙ of_name (has_heading all wanted n) (bytes_eq f.name wanted.name) (same_heading wanted f) n _ _
      (λ e. nat_list_eq_equiv.symm f.name wanted.name ∙ and_first (bytes_eq wanted.name f.name) (same_call wanted f) e)
      (sym (ap (heads wanted) here))
      rest

  pub heading_is : (places : List ℕ) → places ≡ functions_named all wanted.name → heading_among all wanted places ≡ function_with all wanted
  unfolding functions_named function_with
  heading_is places e =
      ap (heading_among all wanted) e
      ∙ headings_from 0 all (λ j. let first : 0 + j ≡ j = omega arith in ap (slice_get all) first)
      ∙ sym (position_from-zero (same_heading wanted) all)

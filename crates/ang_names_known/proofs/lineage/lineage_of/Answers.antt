use Rattle.std.proofs.Common.{◌≤◌, ◌++◌, ℕ, List, [], Vec, Global, length, map as list_map, arith, ap, sym, ◌∙◌, ◌≡◌}
use Rattle.std.specs.Prelude.{replicate}
use Rattle.std.proofs.lemmas.Result.{IfOk-weaker}
use Rattle.std.proofs.lemmas.List.{append-nil, drop_all}
use Rattle.ang_names_known.specs.declared.names.Family.{Family}
use Rattle.ang_names_known.specs.Spaces.{ancestors_of, family_type, first_family}
use Rattle.ang_names_known.proofs.lineage.lineage_of.Goals as goal

pub returns : goal.returns
unfolding ancestors_of
returns c =
    let fs : List Family = c.families-all.result.now in
    let over : length fs ≤ c.loop-family.family-index = omega arith in
    let done : List (List ℕ) = list_map (λ (v : Vec ℕ Global). v.items) c.loop-family.above.items in
    record {
      exact = IfOk-weaker _ (λ l. l ≡ done) (λ l. l ≡ ancestors_of c.args.names.now) (λ l is. is
          ∙ sym (append-nil done)
          ∙ ap (λ ds. done ++ list_map (λ (f : Family). list_map family_type f.above) ds) (sym (drop_all c.loop-family.family-index fs over))
          ∙ sym c.loop-family.invariant
          ∙ ap (λ gs. replicate first_family [] ++ list_map (λ (f : Family). list_map family_type f.above) gs) c.families-all.ensures.same)
          c.new.ensures.same;
    }

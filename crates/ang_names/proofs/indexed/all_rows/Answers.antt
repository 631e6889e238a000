use Rattle.std.proofs.Common.{◌≡◌, ◌+◌, ◌++◌, [], ◌∷◌, take, sym, ap, subst, ◌∙◌}
use Rattle.std.proofs.lemmas.List.{take_more}
use Rattle.ang_names.specs.Rows.{AllHaveMembers}
use Rattle.ang_names.proofs.InRows.{rows_more}
use Rattle.ang_names.proofs.indexed.all_rows.Goals as goal

pub loop-family-preserved : goal.loop-family-preserved
loop-family-preserved c =
    let fs = c.args.families.now in
    let n = c.loop-family.family-index in
    let f = c.family-item.result in
    let rows = c.loop-family.found.items ++ c.in_ok-member_rows.field-0 ∷ [] in
    let grown : take (n + 1) fs ≡ take n fs ++ f ∷ [] = take_more fs n f c.loop-family-test.true ∙ ap (λ x. take n fs ++ x ∷ []) (sym c.family-item.is) in
    record {
      members =
          subst (λ rs. AllHaveMembers (take (n + 1) fs) rs) (sym c.in_ok-push.ensures.items)
          (subst (λ gs. AllHaveMembers gs rows) (sym grown)
          (rows_more (take n fs) c.loop-family.found.items f c.in_ok-member_rows.field-0 c.loop-family.invariant.members c.in_ok-member_rows.ensures.exact));
    }

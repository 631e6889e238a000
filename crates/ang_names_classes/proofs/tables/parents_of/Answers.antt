use Rattle.std.specs.Prelude.{length}
use Rattle.std.proofs.Common.{rules, ◌<◌, ◌∙◌, ap, get_or, subst}
use Rattle.ang_names_classes.specs.Hierarchy.{is_parent}
use Rattle.ang_names_classes.specs.Tables.{base_places}
use Rattle.ang_names_classes.proofs.Marked.{parent_row, row_next}
use Rattle.ang_names_classes.proofs.tables.parents_of.Goals as goal

pub loop-family-preserved : goal.loop-family-preserved
loop-family-preserved c =
    let e = c.families-families.ensures.same in
    let i = c.loop-family.family-index in
    let d = c.family-item.result in
    row_next c.args.placed.now (is_parent c.args.placed.now) (base_places c.args.placed.now) (parent_row c.args.placed.now)
    c.loop-family.table.items c.push_row.new.table.items i _ d _
    c.loop-family.invariant (subst (λ ds. i < length ds) e c.loop-family-test.true) (c.family-item.is ∙ ap (λ ds. get_or ds i d) e)
    (search rules) (search rules) c.in_ok-push_row.ensures.pushed

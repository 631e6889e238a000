use Rattle.std.specs.Prelude.{length}
use Rattle.std.proofs.Common.{rules, ◌<◌, ◌∙◌, ap, get_or, subst}
use Rattle.ang_names_classes.specs.Hierarchy.{is_base}
use Rattle.ang_names_classes.specs.Tables.{class_places}
use Rattle.ang_names_classes.proofs.Marked.{base_row, row_next}
use Rattle.ang_names_classes.proofs.tables.bases_of.Goals as goal

pub loop-family-preserved : goal.loop-family-preserved
loop-family-preserved c =
    let e = c.families-families.ensures.same in
    let i = c.loop-family.family-index in
    let d = c.family-item.result in
    row_next c.args.placed.now (is_base c.args.placed.now) (class_places c.args.placed.now) (base_row c.args.placed.now)
    c.loop-family.table.items c.push_row.new.table.items i _ d _
    c.loop-family.invariant (subst (λ ds. i < length ds) e c.loop-family-test.true) (c.family-item.is ∙ ap (λ ds. get_or ds i d) e)
    (search rules) (search rules) c.in_ok-push_row.ensures.pushed

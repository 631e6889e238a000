use Rattle.std.proofs.Common.{rules}
use Rattle.ang_names_classes.specs.Tables.{held_places, holds_itself}
use Rattle.ang_names_classes.proofs.Marked.{held_row, row_next}
use Rattle.ang_names_classes.proofs.tables.held_of.Goals as goal

pub loop-family-preserved : goal.loop-family-preserved
loop-family-preserved c =
    row_next c.args.families.now (holds_itself c.args.space.now c.args.families.now) (held_places c.args.space.now) (λ i d is j. held_row c.args.families.now i d is c.args.space.now j)
    c.loop-family.table.items c.push_row.new.table.items c.loop-family.family-index _ c.family-item.result _
    c.loop-family.invariant c.loop-family-test.true c.family-item.is (search rules) (search rules) c.in_ok-push_row.ensures.pushed

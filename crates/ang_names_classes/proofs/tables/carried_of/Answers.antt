use Rattle.std.proofs.Common.{rules}
use Rattle.ang_names_classes.proofs.Marked.{carried_next}
use Rattle.ang_names_classes.proofs.tables.carried_of.Goals as goal

pub loop-number-preserved : goal.loop-number-preserved
loop-number-preserved c =
    carried_next c.args.space.now c.args.families.now c.loop-number.table.items c.push_carried.new.table.items _ c.loop-number.number
    c.loop-number.invariant (search rules) c.in_ok-push_carried.ensures.pushed

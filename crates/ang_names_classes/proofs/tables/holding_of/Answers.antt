use Rattle.std.proofs.Common.{rules}
use Rattle.ang_names_classes.proofs.Holding.{holding_next}
use Rattle.ang_names_classes.proofs.tables.holding_of.Goals as goal

pub loop-number-preserved : goal.loop-number-preserved
loop-number-preserved c =
    holding_next c.args.space.now c.args.families.now c.loop-number.table.items c.push_spread_row.new.table.items c.args.carried.now c.args.above.now
    c.loop-number.number _ c.loop-number.invariant (search rules) c.requires.carried c.requires.above c.loop-number-test.true
    c.in_ok-push_spread_row.ensures.pushed

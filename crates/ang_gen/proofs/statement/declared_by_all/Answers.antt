use Rattle.std.proofs.Common.{arith}
use Rattle.ang_gen.proofs.Turns.{declared_turn, declared_end}
use Rattle.ang_gen.proofs.statement.declared_by_all.Goals as goal

pub loop-s-preserved : goal.loop-s-preserved
loop-s-preserved c = (
  declared_turn c.loop-s.s-index c.loop-s.count c.declared_by-count.result c.args.statements.now c.s-item.result c.loop-s-test.true c.s-item.is c.loop-s.invariant.0 c.declared_by-count.ensures.count,
  omega (arith, c.declared_by-count.ensures.few, c.loop-s.invariant.1),
)

pub returns : goal.returns
returns c = record { exact = declared_end c.loop-s.s-index c.loop-s.count c.args.statements.now c.loop-s-test.false c.loop-s.invariant.0 }

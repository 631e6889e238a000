use Rattle.ang_gen.specs.Marks.{AreAmong}
use Rattle.ang_gen.proofs.marks.StatementMarks.in_order.Given as goal

abbrev pub invariant-loop-mark : goal.invariant-loop-mark
invariant-loop-mark l = AreAmong l.positions l.found.items

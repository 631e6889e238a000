use Rattle.std.proofs.Common.{length}
use Rattle.examples.proofs.run_rows.Given as goal

abbrev pub decreases-loop-left : goal.decreases-loop-left
decreases-loop-left l = length l.left

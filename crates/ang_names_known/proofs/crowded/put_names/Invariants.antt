use Rattle.ang_names_known.specs.Crowded.{AreRight}
use Rattle.ang_names_known.proofs.crowded.put_names.Given as goal

abbrev pub invariant-loop-name : goal.invariant-loop-name
invariant-loop-name l = AreRight l.families l.crowded

use Rattle.ang_names_known.specs.Crowded.{AreRight}
use Rattle.ang_names_known.proofs.crowded.put_name.Given as goal

abbrev pub invariant-loop-family : goal.invariant-loop-family
invariant-loop-family l = AreRight l.families l.crowded

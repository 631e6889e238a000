use Rattle.std.proofs.Common.{◌≡◌, drop}
use Rattle.std.specs.Prelude.{max}
use Rattle.ang_gen.specs.Peaks.{list_peak}
use Rattle.ang_gen.proofs.height.+peak.Given as goal

abbrev pub invariant-operands_peak-loop-e : goal.invariant-operands_peak-loop-e
invariant-operands_peak-loop-e l = max l.highest (list_peak l.next (drop l.e-index l.operands)) ≡ list_peak l.initial.next l.operands

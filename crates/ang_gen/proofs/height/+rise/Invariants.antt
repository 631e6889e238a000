use Rattle.std.proofs.Common.{◌≡◌, drop}
use Rattle.std.specs.Prelude.{max}
use Rattle.ang_gen.specs.Peaks.{statements_peak}
use Rattle.ang_gen.proofs.height.+rise.Given as goal

abbrev pub invariant-row_peak-loop-s : goal.invariant-row_peak-loop-s
invariant-row_peak-loop-s l = max l.highest (statements_peak l.here (drop l.s-index l.row)) ≡ statements_peak l.initial.here l.row

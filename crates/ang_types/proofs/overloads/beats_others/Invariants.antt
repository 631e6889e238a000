use Rattle.std.proofs.Common.{ℕ, ◌<◌, ◌≢◌}
use Rattle.ang_types.specs.Overloads.{IsViableAt, IsBetter, params_at}
use Rattle.ang_types.proofs.overloads.beats_others.Given as goal

abbrev pub invariant-loop-j : goal.invariant-loop-j
invariant-loop-j l =
    (j : ℕ) → j < l.j → j ≢ l.fn.i → IsViableAt l.lineage l.candidates l.args j → IsBetter l.lineage (params_at l.candidates l.fn.i) (params_at l.candidates j) l.args

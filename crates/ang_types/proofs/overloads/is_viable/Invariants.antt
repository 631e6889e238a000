use Rattle.std.proofs.Common.{ℕ, ◌<◌, IsSome}
use Rattle.ang_types.specs.Overloads.{rank_at}
use Rattle.ang_types.proofs.overloads.is_viable.Given as goal

abbrev pub invariant-loop-k : goal.invariant-loop-k
invariant-loop-k l = (k : ℕ) → k < l.k → IsSome (rank_at l.lineage l.params l.args k)

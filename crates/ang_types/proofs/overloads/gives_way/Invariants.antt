use Rattle.std.specs.Prelude.{ℕ, true, ◌≡◌, ◌<◌, ◌↔◌, IsSome}
use Rattle.ang_types.specs.Overloads.{IsLess, rank_at}
use Rattle.ang_types.proofs.overloads.gives_way.Given as goal

abbrev pub invariant-loop-k : goal.invariant-loop-k
invariant-loop-k l =
    record {
      ranked : (k : ℕ) → k < l.k → IsSome (rank_at l.lineage l.params l.args k);
      ahead : (l.is_ahead ≡ true) ↔ ((k : ℕ) × (k < l.k) × IsLess (rank_at l.lineage l.params l.args k) (rank_at l.lineage l.others l.args k));
      behind : (l.is_behind ≡ true) ↔ ((k : ℕ) × (k < l.k) × IsLess (rank_at l.lineage l.others l.args k) (rank_at l.lineage l.params l.args k));
    }

use Rattle.std.specs.Prelude.{ℕ, true, ◌≡◌, ◌<◌, ◌↔◌, IsSome}
use Rattle.ang_types.specs.Overloads.{IsLess, rank_at}
use Rattle.ang_types.proofs.overloads.outdoes.Given as goal

abbrev pub invariant-loop-k : goal.invariant-loop-k
invariant-loop-k l =
    record {
      ranked : (k : ℕ) → k < l.k → IsSome (rank_at l.lineage l.params l.args k);
      none_greater : (k : ℕ) → k < l.k → ¬ IsLess (rank_at l.lineage l.others l.args k) (rank_at l.lineage l.params l.args k);
      one_less : (l.is_ahead ≡ true) ↔ ((k : ℕ) × (k < l.k) × IsLess (rank_at l.lineage l.params l.args k) (rank_at l.lineage l.others l.args k));
    }

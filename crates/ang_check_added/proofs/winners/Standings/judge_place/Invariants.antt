use Rattle.std.specs.Prelude.{◌==◌, ◌||◌, ◌&&◌, nat_lt}
use Rattle.std.proofs.Common.{◌≡◌, ℕ}
use Rattle.ang_check_added.specs.Sets.{IsOnlyIn, has}
use Rattle.ang_check_added.specs.Verdicts.{verdict_at}
use Rattle.ang_check_added.proofs.winners.Standings.judge_place.Given as goal

abbrev pub invariant-loop-kind : goal.invariant-loop-kind
invariant-loop-kind l =
    record {
      lost : (k n : ℕ) → IsOnlyIn l.sets k n
          → has l.self.lost.words n ≡ (has l.initial.self.lost.words n || (nat_lt k l.kind && (verdict_at l.verdicts k == 2)));
      ahead : (k n : ℕ) → IsOnlyIn l.sets k n
          → has l.self.ahead.words n ≡ (has l.initial.self.ahead.words n || (nat_lt k l.kind && (verdict_at l.verdicts k == 1)));
    }

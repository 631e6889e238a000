use Rattle.std.specs.Prelude.{ℕ, ◌≡◌, length, None}
use Rattle.ang_types.specs.Rivals.{least_at}
use Rattle.ang_check_contest.proofs.rivalry.nothing.Given as goal

abbrev pub invariant-loop-i : goal.invariant-loop-i
invariant-loop-i l = (length l.least.items ≡ l._i) × ((k : ℕ) → least_at l.least.items k ≡ None)

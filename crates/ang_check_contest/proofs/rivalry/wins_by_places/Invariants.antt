use Rattle.std.proofs.Common.{◌≡◌, drop}
use Rattle.ang_check_contest.specs.Told.{ranks_at, rows_of}
use Rattle.ang_check_contest.specs.Winning.{wins_by}
use Rattle.ang_check_contest.proofs.rivalry.wins_by_places.Given as goal

abbrev pub invariant-loop-place : goal.invariant-loop-place
invariant-loop-place l =
    wins_by (ranks_at (rows_of (drop l.place l.rows)) (drop l.place l.numbers)) (drop l.place l.least) l.ahead
    ≡ wins_by (ranks_at (rows_of l.rows) l.numbers) l.least l.is_ahead

use Rattle.std.proofs.Common.{◌≡◌, drop}
use Rattle.ang_check_contest.specs.Scores.{in_front}
use Rattle.ang_check_contest.specs.Told.{ranks_at, rows_of}
use Rattle.ang_check_contest.proofs.told.rank_told.Given as goal

abbrev pub invariant-loop-row : goal.invariant-loop-row
invariant-loop-row l = in_front l.initial.ranks.items (ranks_at (rows_of l.rows) l.numbers) ≡ in_front l.ranks.items (ranks_at (rows_of (drop l.row-index l.rows)) l.rest)

use Rattle.std.proofs.Common.{◌≡◌, ◌++◌, drop}
use Rattle.ang_check_contest.specs.Levels.{levels_beside, levels_in}
use Rattle.ang_check_contest.specs.Told.{rows_of}
use Rattle.ang_check_contest.proofs.levels.levels_beside.Given as goal

abbrev pub invariant-loop-row : goal.invariant-loop-row
invariant-loop-row l = levels_beside (rows_of l.rows) l.least ≡ levels_in l.all.items ++ levels_beside (rows_of (drop l.row-index l.rows)) l.others

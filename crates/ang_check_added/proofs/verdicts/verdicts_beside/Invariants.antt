use Rattle.std.proofs.Common.{◌≡◌, ◌++◌, drop}
use Rattle.ang_check_contest.specs.Told.{rows_of}
use Rattle.ang_check_added.specs.Verdicts.{verdicts_beside, verdicts_in}
use Rattle.ang_check_added.proofs.verdicts.verdicts_beside.Given as goal

abbrev pub invariant-loop-row : goal.invariant-loop-row
invariant-loop-row l = verdicts_beside (rows_of l.rows) l.least ≡ verdicts_in l.all.items ++ verdicts_beside (rows_of (drop l.row-index l.rows)) l.others

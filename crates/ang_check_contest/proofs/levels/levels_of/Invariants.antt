use Rattle.std.proofs.Common.{◌≡◌, ◌++◌, drop}
use Rattle.ang_check_contest.specs.Levels.{levels_of}
use Rattle.ang_check_contest.proofs.levels.levels_of.Given as goal

abbrev pub invariant-loop-rank : goal.invariant-loop-rank
invariant-loop-rank l = levels_of l.ranks l.least ≡ l.levels.items ++ levels_of (drop l.rank-index l.ranks) l.least

use Rattle.std.proofs.Common.{◌≡◌, ◌++◌, drop}
use Rattle.ang_check_added.specs.Verdicts.{verdicts_of}
use Rattle.ang_check_added.proofs.verdicts.verdicts_of.Given as goal

abbrev pub invariant-loop-rank : goal.invariant-loop-rank
invariant-loop-rank l = verdicts_of l.ranks l.least ≡ l.verdicts.items ++ verdicts_of (drop l.rank-index l.ranks) l.least

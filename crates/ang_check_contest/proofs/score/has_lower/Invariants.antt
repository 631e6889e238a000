use Rattle.std.proofs.Common.{◌≡◌, drop}
use Rattle.ang_check_contest.specs.Contest.{has_lower}
use Rattle.ang_check_contest.proofs.score.has_lower.Given as goal

abbrev pub invariant-loop-rank : goal.invariant-loop-rank
invariant-loop-rank l = has_lower l.ranks l.others ≡ has_lower (drop l.rank-index l.ranks) l.rest

use Rattle.std.proofs.Common.{◌≡◌, ◌++◌, drop}
use Rattle.ang_check_contest.specs.Contest.{lesser_ranks}
use Rattle.ang_check_contest.proofs.score.lesser_ranks.Given as goal

abbrev pub invariant-loop-rank : goal.invariant-loop-rank
invariant-loop-rank l = lesser_ranks l.ranks l.others ≡ l.lesser.items ++ lesser_ranks (drop l.rank-index l.ranks) l.rest

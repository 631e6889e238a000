use Rattle.std.proofs.Common.{◌≡◌, ◌++◌, Some, drop, map}
use Rattle.ang_check_contest.proofs.rivalry.each_known.Given as goal

abbrev pub invariant-loop-rank : goal.invariant-loop-rank
invariant-loop-rank l = map Some l.ranks ≡ l.known.items ++ map Some (drop l.rank-index l.ranks)

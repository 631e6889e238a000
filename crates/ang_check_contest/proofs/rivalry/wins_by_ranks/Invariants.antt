use Rattle.std.proofs.Common.{◌≡◌, drop}
use Rattle.ang_check_contest.specs.Contest.{ranks_of}
use Rattle.ang_check_contest.specs.Winning.{wins_by}
use Rattle.ang_check_contest.proofs.rivalry.wins_by_ranks.Given as goal

abbrev pub invariant-loop-param : goal.invariant-loop-param
invariant-loop-param l =
    wins_by (ranks_of l.lineage l.params l.args) l.least l.is_ahead
    ≡ wins_by (ranks_of l.lineage (drop l.param-index l.params) l.rest) l.others l.ahead

use Rattle.std.proofs.Common.{◌≡◌, drop}
use Rattle.ang_check_contest.specs.Scores.{host_ranks, in_front}
use Rattle.ang_check_contest.proofs.ranking.rank_host.Given as goal

abbrev pub invariant-loop-param : goal.invariant-loop-param
invariant-loop-param l =
    in_front l.initial.ranks.items (host_ranks l.scope.ancestors l.scope.view l.params l.args)
    ≡ in_front l.ranks.items (host_ranks l.scope.ancestors l.scope.view (drop l.param-index l.params) l.rest)

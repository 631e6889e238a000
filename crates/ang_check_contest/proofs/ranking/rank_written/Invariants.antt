use Rattle.std.proofs.Common.{◌≡◌, drop, map as list_map}
use Rattle.ang_names_known.specs.Lookup.{type_and_pass}
use Rattle.ang_check_contest.specs.Contest.{ranks_of}
use Rattle.ang_check_contest.specs.Scores.{in_front}
use Rattle.ang_check_contest.proofs.ranking.rank_written.Given as goal

abbrev pub invariant-loop-param : goal.invariant-loop-param
invariant-loop-param l =
    in_front l.initial.ranks.items (ranks_of l.lineage (list_map type_and_pass l.params) l.args)
    ≡ in_front l.ranks.items (ranks_of l.lineage (list_map type_and_pass (drop l.param-index l.params)) l.rest)

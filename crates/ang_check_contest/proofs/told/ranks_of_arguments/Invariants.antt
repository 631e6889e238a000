use Rattle.std.proofs.Common.{◌≡◌, ◌++◌, drop}
use Rattle.ang_names_known.specs.Kinds.{numbered}
use Rattle.ang_check_contest.specs.Told.{rows_of, told_ranks}
use Rattle.ang_check_contest.proofs.told.ranks_of_arguments.Given as goal

abbrev pub invariant-loop-argument : goal.invariant-loop-argument
invariant-loop-argument l =
    told_ranks l.lineage (numbered l.receiver l.kinds) l.args
    ≡ rows_of l.rows.items ++ told_ranks l.lineage (numbered l.receiver l.kinds) (drop l.argument-index l.args)

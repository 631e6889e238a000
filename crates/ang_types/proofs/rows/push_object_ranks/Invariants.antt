use Rattle.std.proofs.Common.{◌≡◌, ◌++◌, drop}
use Rattle.ang_types.specs.declared.arg_type.ArgType.TheVariants.{Object}
use Rattle.ang_types.specs.Rows.{ranks_for}
use Rattle.ang_types.proofs.rows.push_object_ranks.Given as goal

abbrev pub invariant-loop-kind : goal.invariant-loop-kind
invariant-loop-kind l =
    l.initial.row.items ++ ranks_for l.lineage (Object l.number l.read_only) l.kinds
    ≡ l.row.items ++ ranks_for l.lineage (Object l.number l.read_only) (drop l.kind-index l.kinds)

use Rattle.std.proofs.Common.{◌≡◌, drop, map as list_map}
use Rattle.std.specs.Vec.Iter.{into_iter_items}
use Rattle.ang_typed.specs.View.{view_arg}
use Rattle.ang_check_typing.specs.Calls.{arguments_for}
use Rattle.ang_check_operators.specs.View.{view_operands}
use Rattle.ang_check_typing.proofs.SoFar.{all_behind}
use Rattle.ang_check_typing.proofs.arguments.arguments_in.Given as goal

abbrev pub invariant-loop-param : goal.invariant-loop-param
invariant-loop-param l =
    arguments_for l.lineage l.params (view_operands l.fn.operands.items)
    ≡ all_behind (list_map view_arg l.arguments.items) (arguments_for l.lineage (drop l.param-index l.params) (view_operands (into_iter_items l.rest)))

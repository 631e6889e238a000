use Rattle.std.proofs.Common.{◌≡◌, map as list_map}
use Rattle.ang_typed.specs.View.{view_expr}
use Rattle.ang_check_operators.specs.View.{view_operands}
use Rattle.ang_check_stmt.specs.Typing.{trees_of}
use Rattle.ang_check_stmt.proofs.values.trees_of.Given as goal

abbrev pub invariant-loop-operand : goal.invariant-loop-operand
invariant-loop-operand l = list_map view_expr l.trees.items ≡ trees_of (view_operands l.yielded)

use Rattle.std.proofs.Common.{◌≡◌, ◌++◌, drop}
use Rattle.ang_check_context.specs.Operands as spec
use Rattle.ang_check_operators.specs.View.{view_operands}
use Rattle.ang_check_context.proofs.operands.types_of.Given as goal

abbrev pub invariant-loop-operand : goal.invariant-loop-operand
invariant-loop-operand l =
    spec.types_of (view_operands l.operands) ≡ l.types.items ++ spec.types_of (view_operands (drop l.operand-index l.operands))

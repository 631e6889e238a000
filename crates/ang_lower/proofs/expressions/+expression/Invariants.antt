use Rattle.std.proofs.Common.{◌≡◌, ◌++◌, drop, map as list_map}
use Rattle.ang_typed.specs.View.{view_args}
use Rattle.ang_lower.specs.PlainExpr.{plain_expr}
use Rattle.ang_lower.specs.LoweredExpr.{lowered_args}
use Rattle.ang_lower.proofs.expressions.+expression.Given as goal

abbrev pub invariant-add_arguments-loop-argument : goal.invariant-add_arguments-loop-argument
invariant-add_arguments-loop-argument l =
    list_map plain_expr l.found.items ++ lowered_args l.alive (view_args (drop l.argument-index l.arguments))
    ≡ list_map plain_expr l.initial.found.items ++ lowered_args l.alive (view_args l.arguments)

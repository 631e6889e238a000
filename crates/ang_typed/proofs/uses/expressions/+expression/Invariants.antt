use Rattle.std.proofs.Common.{◌≡◌, drop}
use Rattle.ang_typed.specs.View.{view_args}
use Rattle.ang_typed.specs.Marked.{args_marks}
use Rattle.ang_typed.proofs.uses.expressions.+expression.Given as goal

abbrev pub invariant-mark_arguments-loop-argument : goal.invariant-mark_arguments-loop-argument
invariant-mark_arguments-loop-argument l =
    args_marks (view_args (drop l.argument-index l.arguments)) l.marks.items ≡ args_marks (view_args l.arguments) l.initial.marks.items

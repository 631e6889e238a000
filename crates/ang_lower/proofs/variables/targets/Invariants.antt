use Rattle.std.proofs.Common.{◌≡◌, drop}
use Rattle.std.specs.Prelude.{reverse}
use Rattle.ang_typed.specs.View.{view_args}
use Rattle.ang_lower.specs.LoweredExpr.{targets_behind, targets_of}
use Rattle.ang_lower.proofs.variables.targets.Given as goal

abbrev pub invariant-loop-argument : goal.invariant-loop-argument
invariant-loop-argument l =
    targets_behind l.alive (view_args (drop l.argument-index l.arguments)) (reverse l.found.items) ≡ targets_of l.alive (view_args l.arguments)

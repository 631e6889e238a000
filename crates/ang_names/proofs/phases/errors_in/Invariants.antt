use Rattle.std.proofs.Common.{◌≡◌}
use Rattle.ang_names.specs.Phases.{errors_in}
use Rattle.ang_names.proofs.phases.errors_in.Given as goal

abbrev pub invariant-loop-item : goal.invariant-loop-item
invariant-loop-item l = l.errors.items ≡ errors_in l.yielded

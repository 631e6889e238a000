use Rattle.std.proofs.Common.{◌≡◌, map}
use Rattle.ang_registry.specs.Types.{settled_param}
use Rattle.ang_registry.proofs.settle.settled_params.Given as goal

abbrev pub invariant-loop-param : goal.invariant-loop-param
invariant-loop-param l = l.settled.items ≡ map (settled_param l.list) l.yielded

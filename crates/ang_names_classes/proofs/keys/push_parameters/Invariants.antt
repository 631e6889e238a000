use Rattle.std.proofs.Common.{◌≡◌, ◌++◌, drop}
use Rattle.ang_names_classes.specs.Keys.{parameters_code}
use Rattle.ang_names_classes.proofs.keys.push_parameters.Given as goal

abbrev pub invariant-loop-parameter : goal.invariant-loop-parameter
invariant-loop-parameter l = l.initial.code.items ++ parameters_code l.params ≡ l.code.items ++ parameters_code (drop l.parameter-index l.params)

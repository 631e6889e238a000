use Rattle.std.proofs.Common.{◌≡◌, ◌++◌, drop, map as list_map}
use Rattle.ang_check.specs.Typing.{typed_parameter}
use Rattle.ang_check.proofs.functions.push_parameters.Given as goal

abbrev pub invariant-loop-param : goal.invariant-loop-param
invariant-loop-param l =
    l.initial.parameters.items ++ list_map typed_parameter l.params
    ≡ l.parameters.items ++ list_map typed_parameter (drop l.param-index l.params)

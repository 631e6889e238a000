use Rattle.std.proofs.Common.{◌≡◌, ◌++◌, drop, map as list_map}
use Rattle.ang_check.specs.Typing.{parameter_local}
use Rattle.ang_check.proofs.functions.push_locals.Given as goal

abbrev pub invariant-loop-param : goal.invariant-loop-param
invariant-loop-param l =
    l.initial.locals ++ list_map parameter_local l.params
    ≡ l.locals ++ list_map parameter_local (drop l.param-index l.params)

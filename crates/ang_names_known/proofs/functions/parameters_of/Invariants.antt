use Rattle.std.proofs.Common.{◌≡◌, ◌++◌, drop, map as list_map}
use Rattle.ang_names_known.specs.Lookup.{type_and_pass}
use Rattle.ang_names_known.proofs.functions.parameters_of.Given as goal

abbrev pub invariant-loop-param : goal.invariant-loop-param
invariant-loop-param l = list_map type_and_pass l.written ≡ l.params.items ++ list_map type_and_pass (drop l.param-index l.written)

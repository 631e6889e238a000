use Rattle.std.proofs.Common.{◌≡◌, ◌++◌, drop, map as list_map}
use Rattle.ang_names_classes.specs.Headings.{parameter_of}
use Rattle.ang_names_classes.proofs.headings.parameters_of.Given as goal

abbrev pub invariant-loop-param : goal.invariant-loop-param
invariant-loop-param l =
    list_map (parameter_of l.space l.text l.imported) l.params
    ≡ l.found.items ++ list_map (parameter_of l.space l.text l.imported) (drop l.param-index l.params)

use Rattle.std.proofs.Common.{◌≡◌, ◌++◌, drop, map as list_map}
use Rattle.std.specs.List.{filter_map}
use Rattle.ang_names_listed.specs.Declarations.{declaring_of, family_name}
use Rattle.ang_names_classes.proofs.space.family_names.Given as goal

abbrev pub invariant-loop-declared : goal.invariant-loop-declared
invariant-loop-declared l =
    list_map family_name (filter_map declaring_of l.all) ≡ l.names.items ++ list_map family_name (filter_map declaring_of (drop l.declared-index l.all))

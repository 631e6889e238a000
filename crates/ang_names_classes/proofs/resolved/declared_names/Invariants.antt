use Rattle.std.proofs.Common.{◌≡◌, ◌++◌, drop, map as list_map}
use Rattle.ang_names_listed.specs.Declarations.{declared_name}
use Rattle.ang_names_classes.proofs.resolved.declared_names.Given as goal

abbrev pub invariant-loop-declared : goal.invariant-loop-declared
invariant-loop-declared l = list_map declared_name l.all ≡ l.names.items ++ list_map declared_name (drop l.declared-index l.all)

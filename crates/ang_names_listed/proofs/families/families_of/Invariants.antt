use Rattle.std.proofs.Common.{◌≡◌, ◌++◌, drop}
use Rattle.std.specs.List.{filter_map}
use Rattle.ang_names_listed.specs.Declarations.{declaring_of}
use Rattle.ang_names_listed.proofs.families.families_of.Given as goal

abbrev pub invariant-loop-declared : goal.invariant-loop-declared
invariant-loop-declared l =
    filter_map declaring_of l.all ≡ l.found.items ++ filter_map declaring_of (drop l.declared-index l.all)

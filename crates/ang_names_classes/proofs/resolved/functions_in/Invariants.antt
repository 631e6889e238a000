use Rattle.std.proofs.Common.{◌≡◌, ◌++◌, drop}
use Rattle.std.specs.List.{filter_map}
use Rattle.ang_names_classes.specs.Resolved.{function_of}
use Rattle.ang_names_classes.proofs.resolved.functions_in.Given as goal

abbrev pub invariant-loop-declared : goal.invariant-loop-declared
invariant-loop-declared l =
    filter_map (function_of l.space) l.all ≡ l.functions.items ++ filter_map (function_of l.space) (drop l.declared-index l.all)

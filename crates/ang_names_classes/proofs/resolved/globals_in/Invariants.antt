use Rattle.std.proofs.Common.{◌≡◌, ◌++◌, drop}
use Rattle.std.specs.List.{filter_map}
use Rattle.ang_names_classes.specs.Resolved.{global_of}
use Rattle.ang_names_classes.proofs.resolved.globals_in.Given as goal

abbrev pub invariant-loop-declared : goal.invariant-loop-declared
invariant-loop-declared l =
    filter_map (global_of l.space) l.all ≡ l.globals.items ++ filter_map (global_of l.space) (drop l.declared-index l.all)

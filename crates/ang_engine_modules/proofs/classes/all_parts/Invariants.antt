use Rattle.std.proofs.Common.{◌≡◌, ◌++◌, drop, map as list_map}
use Rattle.ang_engine_modules.specs.Joining.{parts_in, parts_of}
use Rattle.ang_engine_modules.proofs.classes.all_parts.Given as goal

abbrev pub invariant-loop-class : goal.invariant-loop-class
invariant-loop-class l = list_map parts_in l.all.items ++ list_map (parts_of l.home l.classes) (drop l.class-index l.classes) ≡ list_map (parts_of l.home l.classes) l.classes

use Rattle.std.proofs.Common.{◌≡◌, ◌++◌, drop, map as list_map}
use Rattle.ang_check_uses.specs.Uses.{constructor_of}
use Rattle.ang_check_uses.proofs.makers.constructors_of.Given as goal

abbrev pub invariant-loop-constructor : goal.invariant-loop-constructor
invariant-loop-constructor l =
    list_map (constructor_of l.family) l.constructors ≡ l.found ++ list_map (constructor_of l.family) (drop l.constructor-index l.constructors)

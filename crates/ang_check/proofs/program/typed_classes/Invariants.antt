use Rattle.std.proofs.Common.{◌≡◌, ◌++◌, drop, map as list_map}
use Rattle.ang_check.specs.Bodies.{typed_class}
use Rattle.ang_check.proofs.program.typed_classes.Given as goal

abbrev pub invariant-loop-family : goal.invariant-loop-family
invariant-loop-family l = list_map typed_class l.families ≡ l.classes.items ++ list_map typed_class (drop l.family-index l.families)

use Rattle.std.proofs.Common.{◌≡◌, ◌++◌, drop, map as list_map}
use Rattle.ang_check.specs.Bodies.{method_heading}
use Rattle.ang_check.proofs.program.push_headings.Given as goal

abbrev pub invariant-loop-method : goal.invariant-loop-method
invariant-loop-method l =
    l.initial.headings.items ++ list_map (method_heading l.number) l.methods
    ≡ l.headings.items ++ list_map (method_heading l.number) (drop l.method-index l.methods)

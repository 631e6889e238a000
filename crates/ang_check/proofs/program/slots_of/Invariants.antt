use Rattle.std.proofs.Common.{◌≡◌, ◌++◌, drop}
use Rattle.std.specs.List.{filter_map}
use Rattle.ang_check.specs.Bodies.{slot_and_body}
use Rattle.ang_check.proofs.program.slots_of.Given as goal

abbrev pub invariant-loop-method : goal.invariant-loop-method
invariant-loop-method l = filter_map slot_and_body l.methods ≡ l.slots.items ++ filter_map slot_and_body (drop l.method-index l.methods)

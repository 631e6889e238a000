use Rattle.std.proofs.Common.{sym, ap, ◌∙◌}
use Rattle.ang_meaning.specs.Slots.{slots_of}
use Rattle.ang_heap.proofs.Heaping.{no_objects}
use Rattle.ang_meaning.proofs.Slots.{empty_slots}
use Rattle.ang_heap.proofs.heap.Heap.new.Goals as goal

pub returns : goal.returns
returns c = record { empty = no_objects c.new.result c.new.ensures.empty; counted = sym (ap slots_of (no_objects c.new.result c.new.ensures.empty) ∙ empty_slots) }

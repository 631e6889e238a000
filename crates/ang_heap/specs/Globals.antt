-- The globals' values as lists.
use Rattle.std.specs.Prelude.{List, map as list_map}
use Rattle.ang_meaning.specs.declared.slot.Slot.{Slot}
use Rattle.ang_heap.specs.declared.globals.Globals.{Globals}

abbrev pub values_in : Globals → List (List Slot)
values_in g = list_map (λ b. b.value.items) g.modules.items

-- Script objects by number, read off the slab that keeps them.
use Rattle.std.specs.Prelude.{ℕ, ◌≡◌, ◌≤◌, Option, Some, None, map as list_map}
use Rattle.std.specs.FinMap as map
use Rattle.slab.specs.Slab.{Slab, entries}
use Rattle.ang_meaning.specs.World.{ScriptRecord, ScriptObjects}
use Rattle.ang_heap.specs.declared.heap.ScriptObject.{ScriptObject}
use Rattle.ang_heap.specs.declared.heap.Heap.{Heap}
use Rattle.ang_meaning.specs.Slots.{slots_of}

abbrev pub record_of : ScriptObject → ScriptRecord
record_of o = record { class = o.class; rank = o.rank; count = o.count; fields = o.fields.items }

unfoldable pub objects_in : Slab ScriptObject → ScriptObjects
objects_in s = map.from_entries (list_map (λ e. (e.0, record_of e.1)) (entries s))

abbrev pub objects_of : Heap → ScriptObjects
objects_of h = objects_in h.records

-- the heap counts what its objects take
abbrev pub IsTallied : Heap → Type 0
IsTallied h = h.slots ≡ slots_of (objects_of h)

-- its objects take no more slots than before
abbrev pub IsLess : Heap → Heap → Type 0
IsLess h k = k.slots ≤ h.slots

-- the class and the rank of an object, where there is one
abbrev pub class_of_record : Option ScriptRecord → Option ℕ
class_of_record None = None
class_of_record (Some o) = Some o.class

abbrev pub rank_of_record : Option ScriptRecord → Option ℕ
rank_of_record None = None
rank_of_record (Some o) = Some o.rank

use Rattle.std.proofs.Common.{ℕ, ◌≡◌, ◌≤◌, ◌+◌, Bool, List, drop}
use Rattle.ang_host.specs.Logs.{listed_in, is_heard, log_len, log_capacity}
use Rattle.ang_host.specs.declared.event.Role.{Role}
use Rattle.ang_host.specs.Members.{states_of}
use Rattle.ang_host.specs.Boxes.{members}
use Rattle.ang_meaning.specs.declared.slot.Slot.{Slot}
use Rattle.ang_meaning.specs.World.{Bounds, Input, give_all}
use Rattle.ang_meaning.specs.Counting.{EnoughIn}
use Rattle.slab.specs.Slab.{slab_len}
use Rattle.ang_heap.specs.Parts.{counts_of, live_of, world_by, AreReady, PartsMove}
use Rattle.ang_heap.specs.Heaps.{objects_in}
use Rattle.ang_meaning.specs.Slots.{slots_of}
use Rattle.ang_heap.proofs.heap.+give_up.Given as goal

abbrev pub decreases-give_up : goal.decreases-give_up
decreases-give_up g l = slab_len l.records.now

abbrev pub invariant-loop-i : goal.invariant-loop-i
invariant-loop-i g l = record {
  gives : (gs : List (List Slot)) (n : ℕ) (sp : Bool) (b : Bounds) (is : List Input)
      → give_all l.object.fields.items (world_by (objects_in l.initial.records) (counts_of (λ v. (g.dyn-1.0.entry v).1) (members l.initial.drivers)) gs (listed_in l.initial.events) n sp b is)
      ≡ give_all (drop l.i l.object.fields.items) (world_by (objects_in l.records) (counts_of (λ v. (g.dyn-1.0.entry v).1) (members l.drivers)) gs (listed_in l.events) n sp b is);
  enough : EnoughIn (drop l.i l.object.fields.items) (objects_in l.records) (counts_of (λ v. (g.dyn-1.0.entry v).1) (members l.drivers));
  ready : AreReady (states_of (λ v. (g.dyn-1.0.entry v).1) (members l.drivers)) (log_len l.events) (log_capacity l.events);
  capacity : log_capacity l.events ≡ log_capacity l.initial.events;
  heard : is_heard l.events ≡ is_heard l.initial.events;
  fewer : live_of (λ v. (g.dyn-1.0.entry v).1) (members l.drivers) ≤ live_of (λ v. (g.dyn-1.0.entry v).1) (members l.initial.drivers);
  level : log_len l.events + live_of (λ v. (g.dyn-1.0.entry v).1) (members l.drivers) ≡ log_len l.initial.events + live_of (λ v. (g.dyn-1.0.entry v).1) (members l.initial.drivers);
  shorter : slab_len l.records ≤ slab_len l.initial.records;
  counted : l.initial.slots ≡ slots_of (objects_in l.initial.records) → l.slots ≡ slots_of (objects_in l.records);
  less : l.slots ≤ l.initial.slots;
  moves : (roles : List Role) → PartsMove (λ v. (g.dyn-1.0.entry v).1) roles (members l.initial.drivers) (listed_in l.initial.events) (members l.drivers) (listed_in l.events);
}

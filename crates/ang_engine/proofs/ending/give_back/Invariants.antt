use Rattle.std.proofs.Common.{ℕ, Bool, ◌≡◌, ◌≤◌, ◌+◌, List, take, length}
use Rattle.ang_host.specs.Logs.{listed_in, is_heard, log_len, log_capacity}
use Rattle.ang_host.specs.declared.event.Role.{Role}
use Rattle.ang_host.specs.Members.{states_of}
use Rattle.ang_host.specs.Boxes.{members}
use Rattle.ang_meaning.specs.declared.slot.Slot.{Slot}
use Rattle.ang_meaning.specs.World.{Bounds, Input}
use Rattle.ang_meaning.specs.Results.{give_back}
use Rattle.ang_meaning.specs.Counting.{EnoughIn}
use Rattle.ang_heap.specs.Parts.{counts_of, live_of, world_by, AreReady, PartsMove}
use Rattle.ang_heap.specs.Heaps.{IsTallied, IsLess, objects_of}
use Rattle.ang_engine.proofs.ending.give_back.Given as goal

abbrev pub invariant-loop-left : goal.invariant-loop-left
invariant-loop-left g l = record {
  within : l.left ≤ length l.values;
  gives : (gs : List (List Slot)) (n : ℕ) (sp : Bool) (b : Bounds) (is : List Input)
      → give_back l.values (world_by (objects_of l.initial.heap) (counts_of (λ v. (g.dyn-1.0.entry v).1) (members l.initial.drivers)) gs (listed_in l.initial.events) n sp b is)
      ≡ give_back (take l.left l.values) (world_by (objects_of l.heap) (counts_of (λ v. (g.dyn-1.0.entry v).1) (members l.drivers)) gs (listed_in l.events) n sp b is);
  enough : EnoughIn (take l.left l.values) (objects_of l.heap) (counts_of (λ v. (g.dyn-1.0.entry v).1) (members l.drivers));
  ready : AreReady (states_of (λ v. (g.dyn-1.0.entry v).1) (members l.drivers)) (log_len l.events) (log_capacity l.events);
  capacity : log_capacity l.events ≡ log_capacity l.initial.events;
  fewer : live_of (λ v. (g.dyn-1.0.entry v).1) (members l.drivers) ≤ live_of (λ v. (g.dyn-1.0.entry v).1) (members l.initial.drivers);
  level : log_len l.events + live_of (λ v. (g.dyn-1.0.entry v).1) (members l.drivers) ≡ log_len l.initial.events + live_of (λ v. (g.dyn-1.0.entry v).1) (members l.initial.drivers);
  counted : IsTallied l.initial.heap → IsTallied l.heap;
  heard : is_heard l.events ≡ is_heard l.initial.events;
  less : IsLess l.initial.heap l.heap;
  moves : (roles : List Role) → PartsMove (λ v. (g.dyn-1.0.entry v).1) roles (members l.initial.drivers) (listed_in l.initial.events) (members l.drivers) (listed_in l.events);
}

abbrev pub decreases-loop-left : goal.decreases-loop-left
decreases-loop-left g l = l.left

use Rattle.std.proofs.Common.{ℕ, Bool, ◌≡◌, ◌≤◌, List, [], take, length}
use Rattle.ang_host.specs.Logs.{listed_in, log_len, log_capacity}
use Rattle.ang_host.specs.declared.event.Role.{Role}
use Rattle.ang_host.specs.Members.{states_of}
use Rattle.ang_host.specs.Boxes.{members}
use Rattle.ang_meaning.specs.World.{Bounds, Input}
use Rattle.ang_meaning.specs.Counting.{CountedIn}
use Rattle.ang_heap.specs.Globals.{values_in}
use Rattle.ang_heap.specs.Parts.{counts_of, world_by, AreReady, PartsMove}
use Rattle.ang_heap.specs.Heaps.{objects_of}
use Rattle.ang_engine_modules.specs.World.{all_ended}
use Rattle.ang_engine.proofs.ending.end_all.Given as goal

abbrev pub invariant-loop-left : goal.invariant-loop-left
invariant-loop-left g l = record {
  ended : (n : ℕ) (sp : Bool) (b : Bounds) (is : List Input)
      → all_ended l.order (world_by (objects_of l.initial.heap) (counts_of (λ v. (g.dyn-1.0.entry v).1) (members l.initial.drivers)) (values_in l.initial.globals) (listed_in l.initial.ends) n sp b is)
      ≡ all_ended (take l.left l.order) (world_by (objects_of l.heap) (counts_of (λ v. (g.dyn-1.0.entry v).1) (members l.drivers)) (values_in l.globals) (listed_in l.ends) n sp b is);
  within : l.left ≤ length l.order;
  counted : CountedIn [] (objects_of l.heap) (counts_of (λ v. (g.dyn-1.0.entry v).1) (members l.drivers)) (values_in l.globals);
  ready : AreReady (states_of (λ v. (g.dyn-1.0.entry v).1) (members l.drivers)) (log_len l.ends) (log_capacity l.ends);
  moves : (roles : List Role) → PartsMove (λ v. (g.dyn-1.0.entry v).1) roles (members l.initial.drivers) (listed_in l.initial.ends) (members l.drivers) (listed_in l.ends);
}

abbrev pub decreases-loop-left : goal.decreases-loop-left
decreases-loop-left g l = l.left

use Rattle.std.proofs.Common.{◌≡◌, reverse, Some}
use Rattle.ang_meaning.specs.World.{with_inputs}
use Rattle.ang_code.specs.Weight.{weight}
use Rattle.ang_heap.specs.Stores.{world_of}
use Rattle.ang_vm_stack.specs.Stacks.{values}
use Rattle.ang_vm_stack.specs.Tables.{body_of, setting_of, texts_of}
use Rattle.ang_vm_steps.specs.Turns.{Reaches}
use Rattle.ang_vm.specs.Legs.{Fits, standing}
use Rattle.ang_vm.specs.BodyRunning.{MayRun, RunMoves, all_long}
use Rattle.ang_vm.proofs.bodies.run_from.Given as goal

abbrev pub invariant-loop-callee : goal.invariant-loop-callee
invariant-loop-callee g l = record {
  code : body_of l.table l.here.body ≡ Some l.code;
  fits : Fits l.here l.stack.items l.last.frames.items;
  may_run : MayRun (λ v. (g.dyn-1.0.entry v).1) l.table (values l.stack.items l.here.place.top) l.store;
  reaches : Reaches (setting_of l.table l.nesting) (texts_of l.table) (λ is. standing l.fn.from l.initial.stack.items (reverse l.initial.last.frames.items) (with_inputs is (world_of (λ v. (g.dyn-1.0.entry v).1) l.initial.store))) (λ is. standing l.here l.stack.items (reverse l.last.frames.items) (with_inputs is (world_of (λ v. (g.dyn-1.0.entry v).1) l.store)));
  moves : RunMoves (λ v. (g.dyn-1.0.entry v).1) l.table l.initial.store l.store;
}

abbrev pub decreases-loop-callee : goal.decreases-loop-callee
decreases-loop-callee g l = weight (texts_of l.table) (all_long l.table) (standing l.here l.stack.items (reverse l.last.frames.items) (world_of (λ v. (g.dyn-1.0.entry v).1) l.store))

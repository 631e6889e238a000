use Rattle.std.proofs.Common.{◌≡◌, ◌+◌, ◌-◌, List}
use Rattle.ang_host.specs.declared.event.Role.{Role}
use Rattle.ang_meaning.specs.World.{Input, with_inputs}
use Rattle.ang_meaning.specs.Results.{give_back}
use Rattle.ang_code.specs.Machine.{take_some}
use Rattle.ang_heap.specs.Stores.{world_of, IsReady, StoreMoves}
use Rattle.ang_vm_stack.specs.Stacks.{values}
use Rattle.ang_vm_steps.proofs.many.give_each_upwards.Given as goal

abbrev pub invariant-loop-given : goal.invariant-loop-given
invariant-loop-given g l = record {
  given : (is : List Input) → give_back (take_some l.given (values l.stack (l.top - l.count + l.given))) (with_inputs is (world_of (λ v. (g.dyn-1.0.entry v).1) l.initial.store)) ≡ with_inputs is (world_of (λ v. (g.dyn-1.0.entry v).1) l.store);
  ready : IsReady (λ v. (g.dyn-1.0.entry v).1) l.store;
  moves : (roles : List Role) → StoreMoves (λ v. (g.dyn-1.0.entry v).1) roles l.initial.store l.store;
}

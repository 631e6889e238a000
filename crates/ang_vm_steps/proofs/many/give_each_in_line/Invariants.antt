use Rattle.std.proofs.Common.{◌≡◌, ◌-◌, List}
use Rattle.ang_host.specs.declared.event.Role.{Role}
use Rattle.ang_meaning.specs.World.{Input, with_inputs}
use Rattle.ang_meaning.specs.Results.{give_some}
use Rattle.ang_meaning.specs.Counting.{CanGive}
use Rattle.ang_heap.specs.Stores.{world_of, IsReady, StoreMoves}
use Rattle.ang_vm_stack.specs.Stacks.{values}
use Rattle.ang_vm_steps.proofs.many.give_each_in_line.Given as goal

abbrev pub invariant-loop-given : goal.invariant-loop-given
invariant-loop-given g l = record {
  given : (is : List Input) → give_some l.count (values l.stack l.top) (with_inputs is (world_of (λ v. (g.dyn-1.0.entry v).1) l.initial.store)) ≡ give_some (l.count - l.given) (values l.stack (l.top - l.given)) (with_inputs is (world_of (λ v. (g.dyn-1.0.entry v).1) l.store));
  enough : CanGive (values l.stack (l.top - l.given)) (world_of (λ v. (g.dyn-1.0.entry v).1) l.store);
  ready : IsReady (λ v. (g.dyn-1.0.entry v).1) l.store;
  moves : (roles : List Role) → StoreMoves (λ v. (g.dyn-1.0.entry v).1) roles l.initial.store l.store;
}

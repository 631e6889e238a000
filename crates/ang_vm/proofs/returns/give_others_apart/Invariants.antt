use Rattle.std.proofs.Common.{◌≡◌, ◌-◌, List, drop}
use Rattle.ang_host.specs.declared.event.Role.{Role}
use Rattle.ang_meaning.specs.World.{Input, with_inputs}
use Rattle.ang_meaning.specs.Results.{give_others}
use Rattle.ang_meaning.specs.Counting.{CanGive}
use Rattle.ang_heap.specs.Stores.{world_of, IsReady, StoreMoves}
use Rattle.ang_vm_stack.specs.Stacks.{values}
use Rattle.ang_vm.proofs.returns.give_others_apart.Given as goal

abbrev pub invariant-loop-i : goal.invariant-loop-i
invariant-loop-i g l = record {
  given : (is : List Input) → give_others l.params (values l.stack l.top) (with_inputs is (world_of (λ v. (g.dyn-1.0.entry v).1) l.initial.store)) ≡ give_others (drop l.i l.params) (values l.stack (l.top - l.i)) (with_inputs is (world_of (λ v. (g.dyn-1.0.entry v).1) l.store));
  ready : IsReady (λ v. (g.dyn-1.0.entry v).1) l.store;
  held : CanGive (values l.stack (l.top - l.i)) (world_of (λ v. (g.dyn-1.0.entry v).1) l.store);
  moves : (roles : List Role) → StoreMoves (λ v. (g.dyn-1.0.entry v).1) roles l.initial.store l.store;
}

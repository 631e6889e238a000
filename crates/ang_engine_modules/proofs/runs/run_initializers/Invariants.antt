use Rattle.std.proofs.Common.{◌≡◌, ◌-◌, List, length}
use Rattle.ang_host.specs.Boxes.{members}
use Rattle.ang_host.specs.declared.event.Role.{Role}
use Rattle.ang_heap.specs.Stores.{world_of, IsReady, StoreMoves}
use Rattle.ang_vm_ask.specs.Entities.{HaveRoles}
use Rattle.ang_vm.specs.Machines.{lent}
use Rattle.ang_engine_modules.proofs.Running.{HaveComeAt}
use Rattle.ang_engine_modules.proofs.runs.run_initializers.Given as goal

abbrev pub invariant-loop-number : goal.invariant-loop-number
invariant-loop-number g l = record {
  come : HaveComeAt l.table l.fn.budget l.home l.fn.first l.end (world_of (λ v. (g.dyn-1.0.entry v).1) (lent l.initial.machine l.initial.events))
      l.number l.ticks (world_of (λ v. (g.dyn-1.0.entry v).1) (lent l.machine l.events));
  moved : (roles : List Role) → HaveRoles l.table roles → StoreMoves (λ v. (g.dyn-1.0.entry v).1) roles (lent l.initial.machine l.initial.events) (lent l.machine l.events);
  ready : IsReady (λ v. (g.dyn-1.0.entry v).1) (lent l.machine l.events);
  count : length (members l.machine.store.drivers) ≡ length (members l.initial.machine.store.drivers);
}

abbrev pub decreases-loop-number : goal.decreases-loop-number
decreases-loop-number g l = l.end - l.number

use Rattle.std.proofs.Common.{Ok, refl, sym, subst, []}
use Rattle.ang_heap.specs.Stores.{world_of}
use Rattle.ang_vm.specs.Running.{IsSettled}
use Rattle.ang_vm.proofs.machines.settle.Goals as goal

pub returns-in-Gives-clause-settled : goal.returns-in-Gives-clause-settled
returns-in-Gives-clause-settled g c =
    subst (λ e. IsSettled e (Ok (c.in-Gives.value, c.in-Gives.ticks)) (world_of (λ v. (g.dyn-1.0.entry v).1) c.args.store.now) (world_of (λ v. (g.dyn-1.0.entry v).1) c.give.new.store)) (sym c.in-Gives.is) (refl, sym (c.give.ensures.given []))

use Rattle.ang_vm_steps.proofs.Placed.{none_lives}
use Rattle.ang_vm_steps.proofs.many.nothing_lives.Goals as goal

pub returns-then-store-eq0 : goal.returns-then-store-eq0
returns-then-store-eq0 g c = record { nothing = λ yes. none_lives (λ v. (g.dyn-1.0.entry v).1) c.args.store.now c.requires.ready c.if-store-eq0.true (c.is_empty.ensures.exact.0 yes) }

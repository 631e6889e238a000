use Rattle.ang_heap.specs.Stores.{world_of}
use Rattle.ang_vm_ask.proofs.Holding.{held_can, not_held_can}
use Rattle.ang_vm_ask.proofs.replies.accept.Goals as goal

pub returns-then-not-hold-clause-enough : goal.returns-then-not-hold-clause-enough
returns-then-not-hold-clause-enough g c = λ vs p.
    not_held_can c.in-Some.value vs c.hold.result (world_of (λ v. (g.dyn-1.0.entry v).1) c.args.store.now) (world_of (λ v. (g.dyn-1.0.entry v).1) c.hold.new.store)
    c.if-not-hold.true c.hold.ensures.told p

pub returns-clause-enough : goal.returns-clause-enough
returns-clause-enough g c = λ vs p.
    held_can c.in-Some.value vs c.hold.result (world_of (λ v. (g.dyn-1.0.entry v).1) c.args.store.now) (world_of (λ v. (g.dyn-1.0.entry v).1) c.hold.new.store)
    c.if-not-hold.false c.hold.ensures.told p

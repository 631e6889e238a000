use Rattle.std.proofs.Common.{[]}
use Rattle.ang_heap.specs.Stores.{world_of}
use Rattle.ang_meaning.specs.declared.slot.Slot.TheVariants.{Bits}
use Rattle.ang_vm_ask.proofs.ObjectOperands.{global_known}
use Rattle.ang_vm_ask.proofs.StoreOperations.{global_is, got, not_got}
use Rattle.ang_vm_ask.proofs.globals.get.Goals as goal

pub hold-requires : goal.hold-requires
hold-requires g c =
    let w = world_of (λ v. (g.dyn-1.0.entry v).1) c.args.store.now in
    record { there = (global_known c.args.home c.args.number c.get_or-value.result [] w (global_is c.args.home c.args.number (Bits 0) c.get_or-value.result w c.get_or-value.ensures.exact) c.requires.counted).1 }

pub returns-then-not-hold-clause-told : goal.returns-then-not-hold-clause-told
returns-then-not-hold-clause-told g c =
    let w = world_of (λ v. (g.dyn-1.0.entry v).1) c.args.store.now in
    let u = world_of (λ v. (g.dyn-1.0.entry v).1) c.hold.new.store in
    λ z. not_got z c.args.home c.args.number w u c.get_or-value.result c.hold.result c.hold.ensures.told (global_is c.args.home c.args.number (Bits 0) c.get_or-value.result w c.get_or-value.ensures.exact) c.if-not-hold.true

pub returns-clause-told : goal.returns-clause-told
returns-clause-told g c =
    let w = world_of (λ v. (g.dyn-1.0.entry v).1) c.args.store.now in
    let u = world_of (λ v. (g.dyn-1.0.entry v).1) c.hold.new.store in
    λ z. got z c.args.home c.args.number w u c.get_or-value.result c.hold.result c.hold.ensures.told (global_is c.args.home c.args.number (Bits 0) c.get_or-value.result w c.get_or-value.ensures.exact) c.if-not-hold.false

use Rattle.ang_heap.specs.Stores.{world_of}
use Rattle.ang_meaning.specs.declared.slot.Slot.TheVariants.{Bits}
use Rattle.ang_vm_ask.proofs.StoreOperations.{global_is, altered, not_altered}
use Rattle.ang_vm_ask.proofs.globals.alter.Goals as goal

pub returns-in-Ok-clause-told : goal.returns-in-Ok-clause-told
returns-in-Ok-clause-told g c =
    let w = world_of (λ v. (g.dyn-1.0.entry v).1) c.args.store.now in
    let u = world_of (λ v. (g.dyn-1.0.entry v).1) c.trade_global.new.store in
    λ z. altered z c.args.home c.args.number w c.args.by c.args.operand c.get_or-old.result c.change_slot.result (global_is c.args.home c.args.number (Bits 0) c.get_or-old.result w c.get_or-old.ensures.exact) c.change_slot.ensures.exact
    c.in-Ok.altered u c.in-Ok.is c.trade_global.ensures.put

pub returns-in-Err-clause-told : goal.returns-in-Err-clause-told
returns-in-Err-clause-told g c =
    let w = world_of (λ v. (g.dyn-1.0.entry v).1) c.args.store.now in
    λ z. not_altered z c.args.home c.args.number w c.args.by c.args.operand c.get_or-old.result c.change_slot.result (global_is c.args.home c.args.number (Bits 0) c.get_or-old.result w c.get_or-old.ensures.exact) c.change_slot.ensures.exact
    c.in-Err.fault c.in-Err.is

use Rattle.ang_heap.specs.Stores.{world_of}
use Rattle.ang_heap.specs.Globals.{values_in}
use Rattle.ang_vm_ask.proofs.Movings.{moves_globals}
use Rattle.ang_vm_ask.proofs.StoreOperations.{global_is, global_set_is}
use Rattle.ang_vm_ask.proofs.globals.trade_global.Goals as goal

pub returns-clause-old : goal.returns-clause-old
returns-clause-old g c = global_is c.args.home c.args.number c.args.value c.get_or-old.result (world_of (λ v. (g.dyn-1.0.entry v).1) c.args.store.now) c.get_or-old.ensures.exact

pub returns-clause-put : goal.returns-clause-put
returns-clause-put g c = λ is. global_set_is c.args.home c.args.number c.args.value (world_of (λ v. (g.dyn-1.0.entry v).1) c.args.store.now) (values_in c.put.new.self) c.put.ensures.put is

pub returns-clause-moves : goal.returns-clause-moves
returns-clause-moves g c = λ roles. moves_globals _ roles c.args.store.now c.put.new.self

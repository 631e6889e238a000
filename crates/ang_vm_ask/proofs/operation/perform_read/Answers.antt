use Rattle.std.proofs.Common.{sym}
use Rattle.ang_host.specs.Boxes.{members}
use Rattle.ang_host.specs.Members.{states_of}
use Rattle.ang_heap.specs.Heaps.{objects_of}
use Rattle.ang_heap.specs.Stores.{world_of}
use Rattle.ang_vm_ask.proofs.Performing.{read_performed, read_nobody, read_other}
use Rattle.ang_vm_ask.proofs.Moved.{unasked}
use Rattle.ang_vm_ask.proofs.Live.{object_live, kept_can}
use Rattle.ang_vm_ask.proofs.operation.perform_read.Goals as goal

pub returns-in_default : goal.returns-in_default
returns-in_default g c = record {
  performed = read_other c.args.caller.now c.args.entity c.args.host.now c.args.operands.now (world_of (λ v. (g.dyn-1.0.entry v).1) c.args.store.now) _ _ c.in_default.not-Property;
  enough = λ vs p. p;
  asked = unasked (λ v. (g.dyn-1.0.entry v).1) c.args.entity c.args.host.now.role c.args.store.now;
}

pub read-requires-clause-object_live : goal.read-requires-clause-object_live
read-requires-clause-object_live g c = object_live (states_of (λ v. (g.dyn-1.0.entry v).1) (members c.args.store.now.drivers)) (objects_of c.args.store.now.heap) c.args.operands.now c.requires.enough c.args.host.now c.in-Ok.object (sym c.in-Ok.ensures.exact)

pub returns-in-Ok-clause-performed : goal.returns-in-Ok-clause-performed
returns-in-Ok-clause-performed g c =
    read_performed c.args.caller.now c.args.entity c.args.host.now c.args.operands.now (world_of (λ v. (g.dyn-1.0.entry v).1) c.args.store.now) (world_of (λ v. (g.dyn-1.0.entry v).1) c.read.new.store) c.in-Ok.object c.read.result (sym c.in-Ok.ensures.exact) c.read.ensures.told

pub returns-in-Ok-clause-enough : goal.returns-in-Ok-clause-enough
returns-in-Ok-clause-enough g c = λ vs p. kept_can c.read.result vs (world_of (λ v. (g.dyn-1.0.entry v).1) c.read.new.store) (c.read.ensures.enough vs p)

pub returns-in-Err-clause-performed : goal.returns-in-Err-clause-performed
returns-in-Err-clause-performed g c = read_nobody c.args.caller.now c.args.entity c.args.host.now c.args.operands.now (world_of (λ v. (g.dyn-1.0.entry v).1) c.args.store.now) c.in-Err.fault (sym c.in-Err.ensures.exact)

use Rattle.std.proofs.Common.{sym, ap, ◌∙◌}
use Rattle.ang_host.specs.Boxes.{members}
use Rattle.ang_host.specs.Members.{states_of}
use Rattle.ang_heap.specs.Heaps.{objects_of}
use Rattle.ang_heap.specs.Stores.{world_of}
use Rattle.ang_meaning.specs.Perform.{receiver_of}
use Rattle.ang_vm_ask.specs.Handing.{object_in}
use Rattle.ang_vm_ask.proofs.Performing.{write_performed, write_nobody, write_other, write_none}
use Rattle.ang_vm_ask.proofs.Moved.{unasked}
use Rattle.ang_vm_ask.proofs.Live.{object_behind, first_live}
use Rattle.ang_vm_ask.proofs.operation.perform_write.Goals as goal

pub returns-in_default : goal.returns-in_default
returns-in_default g c = record {
  performed = write_other c.args.caller.now c.args.entity c.args.host.now c.args.operands.now (world_of (λ v. (g.dyn-1.0.entry v).1) c.args.store.now) _ _ c.in_default.not-Property;
  enough = λ vs p. p;
  asked = unasked (λ v. (g.dyn-1.0.entry v).1) c.args.entity c.args.host.now.role c.args.store.now;
}

pub returns-in_default-first_of-clause-performed : goal.returns-in_default-first_of-clause-performed
returns-in_default-first_of-clause-performed g c = write_none c.args.caller.now c.args.entity c.args.host.now c.args.operands.now (world_of (λ v. (g.dyn-1.0.entry v).1) c.args.store.now) _ _ (sym c.in_default-first_of.ensures.exact)

pub put-requires-clause-object_live : goal.put-requires-clause-object_live
put-requires-clause-object_live g c = object_behind (states_of (λ v. (g.dyn-1.0.entry v).1) (members c.args.store.now.drivers)) (objects_of c.args.store.now.heap) c.args.operands.now c.requires.enough c.args.host.now c.in-Ok.object (ap (λ l. object_in (receiver_of c.args.host.now l)) (sym c.behind_first.ensures.exact) ∙ sym c.in-Ok.ensures.exact)

pub put-requires-clause-value_live : goal.put-requires-clause-value_live
put-requires-clause-value_live g c =
    first_live (states_of (λ v. (g.dyn-1.0.entry v).1) (members c.args.store.now.drivers)) (objects_of c.args.store.now.heap) c.args.operands.now c.requires.enough c.args.host.now c.args.host.now.result c.in-Some.value (sym c.in-Some.ensures.exact)

pub returns-in-Ok-clause-performed : goal.returns-in-Ok-clause-performed
returns-in-Ok-clause-performed g c =
    write_performed c.args.caller.now c.args.entity c.args.host.now c.args.operands.now (world_of (λ v. (g.dyn-1.0.entry v).1) c.args.store.now) (world_of (λ v. (g.dyn-1.0.entry v).1) c.put.new.store) c.in-Ok.object c.in-Some.value c.put.result
    (sym c.in-Some.ensures.exact) (ap (λ l. object_in (receiver_of c.args.host.now l)) (sym c.behind_first.ensures.exact) ∙ sym c.in-Ok.ensures.exact) c.put.ensures.told

pub returns-in-Err-clause-performed : goal.returns-in-Err-clause-performed
returns-in-Err-clause-performed g c =
    write_nobody c.args.caller.now c.args.entity c.args.host.now c.args.operands.now (world_of (λ v. (g.dyn-1.0.entry v).1) c.args.store.now) c.in-Some.value c.in-Err.fault (sym c.in-Some.ensures.exact) (ap (λ l. object_in (receiver_of c.args.host.now l)) (sym c.behind_first.ensures.exact) ∙ sym c.in-Err.ensures.exact)

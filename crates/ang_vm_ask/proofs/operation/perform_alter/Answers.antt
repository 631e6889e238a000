use Rattle.std.proofs.Common.{[], sym, ap, subst, ◌∙◌}
use Rattle.ang_host.specs.Boxes.{members}
use Rattle.ang_host.specs.Members.{states_of}
use Rattle.ang_heap.specs.Heaps.{objects_of}
use Rattle.ang_heap.specs.Stores.{world_of}
use Rattle.ang_meaning.specs.Perform.{receiver_of}
use Rattle.ang_vm_ask.specs.Handing.{object_in}
use Rattle.ang_meaning.specs.Counting.{CanGive}
use Rattle.ang_meaning.specs.Perform.{change_of}
use Rattle.ang_meaning.proofs.Enough.{each_none}
use Rattle.ang_vm_ask.specs.Replies.{with_result}
use Rattle.ang_vm_ask.proofs.Performing.{alter_performed, alter_nobody, alter_other, alter_none, alter_read, alter_unread}
use Rattle.ang_vm_ask.proofs.Moved.{unasked, asked_then}
use Rattle.ang_vm_ask.proofs.Live.{object_behind, kept_each}
use Rattle.ang_vm_ask.proofs.operation.perform_alter.Goals as goal

pub returns-in_default : goal.returns-in_default
returns-in_default g c = record {
  performed = alter_other c.args.caller.now c.args.entity c.args.host.now c.args.operands.now (world_of (λ v. (g.dyn-1.0.entry v).1) c.args.store.now) _ _ c.args.by c.in_default.not-Property;
  enough = λ vs p. p;
  asked = unasked (λ v. (g.dyn-1.0.entry v).1) c.args.entity c.args.host.now.role c.args.store.now;
}

pub returns-in_default-first_of-clause-performed : goal.returns-in_default-first_of-clause-performed
returns-in_default-first_of-clause-performed g c = alter_none c.args.caller.now c.args.entity c.args.host.now c.args.operands.now (world_of (λ v. (g.dyn-1.0.entry v).1) c.args.store.now) _ _ c.args.by (sym c.in_default-first_of.ensures.exact)

pub returns-in-Err-clause-performed : goal.returns-in-Err-clause-performed
returns-in-Err-clause-performed g c =
    alter_nobody c.args.caller.now c.args.entity c.args.host.now c.args.operands.now (world_of (λ v. (g.dyn-1.0.entry v).1) c.args.store.now) c.args.by c.in-Some.operand c.in-Err.fault (sym c.in-Some.ensures.exact) (ap (λ l. object_in (receiver_of c.args.host.now l)) (sym c.behind_first.ensures.exact) ∙ sym c.in-Err.ensures.exact)

pub read-requires-clause-object_live : goal.read-requires-clause-object_live
read-requires-clause-object_live g c = object_behind (states_of (λ v. (g.dyn-1.0.entry v).1) (members c.args.store.now.drivers)) (objects_of c.args.store.now.heap) c.args.operands.now c.requires.enough c.args.host.now c.in-Ok.object (ap (λ l. object_in (receiver_of c.args.host.now l)) (sym c.behind_first.ensures.exact) ∙ sym c.in-Ok.ensures.exact)

pub put_changed-requires-clause-object_live : goal.put_changed-requires-clause-object_live
put_changed-requires-clause-object_live g c =
    object_behind (states_of (λ v. (g.dyn-1.0.entry v).1) (members c.read.new.store.drivers)) (objects_of c.read.new.store.heap) c.args.operands.now
    (kept_each c.read.result c.args.operands.now (world_of (λ v. (g.dyn-1.0.entry v).1) c.args.store.now) (world_of (λ v. (g.dyn-1.0.entry v).1) c.read.new.store) c.read.ensures.enough c.requires.enough) c.args.host.now c.in-Ok.object (ap (λ l. object_in (receiver_of c.args.host.now l)) (sym c.behind_first.ensures.exact) ∙ sym c.in-Ok.ensures.exact)

pub put_changed-requires-clause-held : goal.put_changed-requires-clause-held
put_changed-requires-clause-held g c =
    subst (λ r. CanGive (with_result r []) (world_of (λ v. (g.dyn-1.0.entry v).1) c.read.new.store)) c.in-Ok-read.is (c.read.ensures.enough [] (each_none c.args.operands.now (world_of (λ v. (g.dyn-1.0.entry v).1) c.args.store.now) c.requires.enough))

pub returns-in-Ok-read-clause-performed : goal.returns-in-Ok-read-clause-performed
returns-in-Ok-read-clause-performed g c =
    alter_performed c.args.caller.now c.args.entity c.args.host.now c.args.operands.now (world_of (λ v. (g.dyn-1.0.entry v).1) c.args.store.now) (world_of (λ v. (g.dyn-1.0.entry v).1) c.put_changed.new.store) c.args.by c.in-Ok.object c.in-Some.operand c.put_changed.result
    (sym c.in-Some.ensures.exact) (ap (λ l. object_in (receiver_of c.args.host.now l)) (sym c.behind_first.ensures.exact) ∙ sym c.in-Ok.ensures.exact)
    (λ z m o sees is. alter_read z m c.args.caller.now c.args.entity c.args.host.now sees o c.in-Ok.object is c.args.by c.in-Some.operand c.in-Ok-read.old c.read.result c.put_changed.result
    (world_of (λ v. (g.dyn-1.0.entry v).1) c.args.store.now) (world_of (λ v. (g.dyn-1.0.entry v).1) c.read.new.store) (world_of (λ v. (g.dyn-1.0.entry v).1) c.put_changed.new.store) c.in-Ok-read.is (c.read.ensures.told z m sees)
    (c.put_changed.ensures.told z m o (change_of c.args.by c.in-Ok-read.old c.in-Some.operand) sees is c.change_slot-altered.ensures.exact))

pub returns-in-Ok-read-clause-enough : goal.returns-in-Ok-read-clause-enough
returns-in-Ok-read-clause-enough g c = λ vs p. c.put_changed.ensures.enough vs (subst (λ r. CanGive (with_result r vs) (world_of (λ v. (g.dyn-1.0.entry v).1) c.read.new.store)) c.in-Ok-read.is (c.read.ensures.enough vs p))

pub returns-in-Ok-read-clause-asked : goal.returns-in-Ok-read-clause-asked
returns-in-Ok-read-clause-asked g c = asked_then (λ v. (g.dyn-1.0.entry v).1) c.args.entity c.args.host.now.role _ _ _ c.read.ensures.asked c.put_changed.ensures.asked

pub returns-in-Err-read-clause-performed : goal.returns-in-Err-read-clause-performed
returns-in-Err-read-clause-performed g c =
    alter_performed c.args.caller.now c.args.entity c.args.host.now c.args.operands.now (world_of (λ v. (g.dyn-1.0.entry v).1) c.args.store.now) (world_of (λ v. (g.dyn-1.0.entry v).1) c.read.new.store) c.args.by c.in-Ok.object c.in-Some.operand _
    (sym c.in-Some.ensures.exact) (ap (λ l. object_in (receiver_of c.args.host.now l)) (sym c.behind_first.ensures.exact) ∙ sym c.in-Ok.ensures.exact)
    (λ z m o sees is. alter_unread z m c.args.caller.now c.args.entity c.args.host.now sees o c.in-Ok.object is c.args.by c.in-Some.operand c.in-Err-read.fault c.read.result (world_of (λ v. (g.dyn-1.0.entry v).1) c.args.store.now) (world_of (λ v. (g.dyn-1.0.entry v).1) c.read.new.store)
    c.in-Err-read.is (c.read.ensures.told z m sees))

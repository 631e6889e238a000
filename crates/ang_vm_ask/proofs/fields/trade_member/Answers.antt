use Rattle.std.proofs.Common.{◌+◌, [], sym, ◌∙◌}
use Rattle.ang_host.specs.Logs.{listed_in, log_len}
use Rattle.ang_host.specs.Boxes.{members}
use Rattle.ang_meaning.specs.World.{with_inputs}
use Rattle.ang_heap.specs.Globals.{values_in}
use Rattle.ang_heap.specs.Heaps.{objects_of}
use Rattle.ang_heap.specs.Parts.{counts_of}
use Rattle.ang_heap.specs.Stores.{world_of, bounds_of}
use Rattle.ang_vm_ask.proofs.Movings.{moves_heap_within}
use Rattle.ang_vm_ask.proofs.FieldOperations.{null_kept, null_same, refused_kept, refused_same, field_traded, field_replaced}
use Rattle.ang_vm_ask.proofs.fields.trade_member.Goals as goal

pub returns-in-None-clause-old : goal.returns-in-None-clause-old
returns-in-None-clause-old g c = null_kept c.args.object c.args.index c.args.value (world_of (λ v. (g.dyn-1.0.entry v).1) c.args.store.now) (sym c.number_of.ensures.exact ∙ c.in-None.is)

pub returns-in-None-clause-put : goal.returns-in-None-clause-put
returns-in-None-clause-put g c = λ is. null_same c.args.object c.args.index c.args.value (with_inputs is (world_of (λ v. (g.dyn-1.0.entry v).1) c.args.store.now)) (sym c.number_of.ensures.exact ∙ c.in-None.is)

pub returns-clause-old : goal.returns-clause-old
returns-clause-old g c =
    let s = c.args.store.now in
    refused_kept c.args.object c.in-Some.number c.args.index c.args.value (sym c.number_of.ensures.exact ∙ c.in-Some.is) (world_of (λ v. (g.dyn-1.0.entry v).1) s)
    (sym (c.may_take.ensures.exact (counts_of (λ v. (g.dyn-1.0.entry v).1) (members s.drivers)) (values_in s.globals) (listed_in s.events) (log_len s.events + s.live) s.spent (bounds_of s.limits) []) ∙ c.if-may_take.false)

pub returns-clause-put : goal.returns-clause-put
returns-clause-put g c = λ is.
    let s = c.args.store.now in
    refused_same c.args.object c.in-Some.number c.args.index c.args.value (sym c.number_of.ensures.exact ∙ c.in-Some.is) (with_inputs is (world_of (λ v. (g.dyn-1.0.entry v).1) s))
    (sym (c.may_take.ensures.exact (counts_of (λ v. (g.dyn-1.0.entry v).1) (members s.drivers)) (values_in s.globals) (listed_in s.events) (log_len s.events + s.live) s.spent (bounds_of s.limits) is) ∙ c.if-may_take.false)

pub returns-then-may_take-clause-old : goal.returns-then-may_take-clause-old
returns-then-may_take-clause-old g c =
    let s = c.args.store.now in
    field_traded c.args.object c.in-Some.number c.args.index c.args.value (sym c.number_of.ensures.exact ∙ c.in-Some.is) c.set_field.result (world_of (λ v. (g.dyn-1.0.entry v).1) s)
    (sym (c.may_take.ensures.exact (counts_of (λ v. (g.dyn-1.0.entry v).1) (members s.drivers)) (values_in s.globals) (listed_in s.events) (log_len s.events + s.live) s.spent (bounds_of s.limits) []) ∙ c.if-may_take.true) c.set_field.ensures.old

pub returns-then-may_take-clause-put : goal.returns-then-may_take-clause-put
returns-then-may_take-clause-put g c = λ is.
    let s = c.args.store.now in
    field_replaced c.args.object c.in-Some.number c.args.index c.args.value (sym c.number_of.ensures.exact ∙ c.in-Some.is) (world_of (λ v. (g.dyn-1.0.entry v).1) s) (objects_of c.set_field.new.self) c.set_field.ensures.put is
    (sym (c.may_take.ensures.exact (counts_of (λ v. (g.dyn-1.0.entry v).1) (members s.drivers)) (values_in s.globals) (listed_in s.events) (log_len s.events + s.live) s.spent (bounds_of s.limits) is) ∙ c.if-may_take.true)

pub returns-then-may_take-clause-moves : goal.returns-then-may_take-clause-moves
returns-then-may_take-clause-moves g c = λ roles. moves_heap_within _ roles c.args.store.now c.set_field.new.self c.set_field.ensures.counted c.set_field.ensures.less

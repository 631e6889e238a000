use Rattle.std.proofs.Common.{◌+◌, [], ◌∷◌, sym, ◌∙◌}
use Rattle.ang_host.specs.Logs.{listed_in, log_len}
use Rattle.ang_host.specs.Boxes.{members}
use Rattle.ang_heap.specs.Globals.{values_in}
use Rattle.ang_heap.specs.Heaps.{objects_of}
use Rattle.ang_heap.specs.Parts.{counts_of}
use Rattle.ang_heap.specs.Stores.{world_of, bounds_of}
use Rattle.ang_heap.proofs.Storing.{moves_join}
use Rattle.ang_meaning.specs.World.{with_inputs}
use Rattle.ang_meaning.proofs.Telling.{told_same}
use Rattle.ang_vm_ask.proofs.Movings.{moves_heap_within}
use Rattle.ang_vm_ask.proofs.ObjectOperands.{second_known, first_gives, given_stand, held_stand, held_below, field_stand}
use Rattle.ang_vm_ask.proofs.FieldOperations.{field_is, field_set_is, set_null, set_refused, stored, not_stored}
use Rattle.ang_vm_ask.proofs.fields.set.Goals as goal

pub returns-in-None-clause-told : goal.returns-in-None-clause-told
returns-in-None-clause-told g c = λ z home.
    told_same (λ is. set_null z home c.args.index c.args.object c.args.value (with_inputs is (world_of (λ v. (g.dyn-1.0.entry v).1) c.args.store.now)) (sym c.number_of.ensures.exact ∙ c.in-None.is))

pub returns-then-not-may_take-clause-told : goal.returns-then-not-may_take-clause-told
returns-then-not-may_take-clause-told g c = λ z home.
    let s = c.args.store.now in
    told_same (λ is. set_refused z home c.in-Some.number c.args.index c.args.object c.args.value (world_of (λ v. (g.dyn-1.0.entry v).1) s) (sym c.number_of.ensures.exact ∙ c.in-Some.is) is
    (sym (c.may_take.ensures.exact (counts_of (λ v. (g.dyn-1.0.entry v).1) (members s.drivers)) (values_in s.globals) (listed_in s.events) (log_len s.events + s.live) s.spent (bounds_of s.limits) is) ∙ c.if-not-may_take.true))

pub hold-requires : goal.hold-requires
hold-requires g c = record { there = (second_known c.args.object c.args.value (world_of (λ v. (g.dyn-1.0.entry v).1) c.args.store.now) c.requires.counted).1 }

pub returns-then-not-hold-clause-told : goal.returns-then-not-hold-clause-told
returns-then-not-hold-clause-told g c = λ z home.
    let s = c.args.store.now in
    let w = world_of (λ v. (g.dyn-1.0.entry v).1) s in
    let u = world_of (λ v. (g.dyn-1.0.entry v).1) c.hold.new.store in
    not_stored z home c.in-Some.number c.args.index c.args.object c.args.value w (sym c.number_of.ensures.exact ∙ c.in-Some.is) c.hold.result u c.hold.ensures.told
    (λ is. sym (c.may_take.ensures.exact (counts_of (λ v. (g.dyn-1.0.entry v).1) (members s.drivers)) (values_in s.globals) (listed_in s.events) (log_len s.events + s.live) s.spent (bounds_of s.limits) is) ∙ c.if-not-may_take.false) c.if-not-hold.true

pub give-requires-clause-ready : goal.give-requires-clause-ready
give-requires-clause-ready g c = (moves_heap_within _ [] c.hold.new.store c.set_field-old.new.self c.set_field-old.ensures.counted c.set_field-old.ensures.less).ready ((c.hold.ensures.moves []).ready c.requires.ready)

pub give-requires-clause-enough : goal.give-requires-clause-enough
give-requires-clause-enough g c =
    let s = c.args.store.now in
    let t = record c.hold.new.store { heap = c.set_field-old.new.self } in
    let w = world_of (λ v. (g.dyn-1.0.entry v).1) s in
    let u = world_of (λ v. (g.dyn-1.0.entry v).1) c.hold.new.store in
    let x = world_of (λ v. (g.dyn-1.0.entry v).1) t in
    let n = c.in-Some.number in
    let i = c.args.index in
    let v = c.args.value in
    let os = c.args.object ∷ v ∷ [] in
    let takes = sym (c.may_take.ensures.exact (counts_of (λ v. (g.dyn-1.0.entry v).1) (members s.drivers)) (values_in s.globals) (listed_in s.events) (log_len s.events + s.live) s.spent (bounds_of s.limits) []) ∙ c.if-not-may_take.false in
    let held = held_stand v c.hold.result w u c.if-not-hold.false c.hold.ensures.told os ((second_known c.args.object v w c.requires.counted).0) c.requires.counted in
    first_gives c.set_field-old.result os x
    (field_stand n i v c.set_field-old.result os u x (field_is n i v c.set_field-old.result u c.set_field-old.ensures.old) (field_set_is n i v u (objects_of c.set_field-old.new.self) c.set_field-old.ensures.put [])
    (held_below v c.hold.result w u c.if-not-hold.false c.hold.ensures.told n os takes c.requires.counted) held)

pub give-requires-2-clause-ready : goal.give-requires-2-clause-ready
give-requires-2-clause-ready g c = (c.give.ensures.moves []).ready ((moves_heap_within _ [] c.hold.new.store c.set_field-old.new.self c.set_field-old.ensures.counted c.set_field-old.ensures.less).ready ((c.hold.ensures.moves []).ready c.requires.ready))

pub give-requires-2-clause-enough : goal.give-requires-2-clause-enough
give-requires-2-clause-enough g c =
    let s = c.args.store.now in
    let t = record c.hold.new.store { heap = c.set_field-old.new.self } in
    let w = world_of (λ v. (g.dyn-1.0.entry v).1) s in
    let u = world_of (λ v. (g.dyn-1.0.entry v).1) c.hold.new.store in
    let x = world_of (λ v. (g.dyn-1.0.entry v).1) t in
    let y = world_of (λ v. (g.dyn-1.0.entry v).1) c.give.new.store in
    let n = c.in-Some.number in
    let i = c.args.index in
    let v = c.args.value in
    let os = c.args.object ∷ v ∷ [] in
    let takes = sym (c.may_take.ensures.exact (counts_of (λ v. (g.dyn-1.0.entry v).1) (members s.drivers)) (values_in s.globals) (listed_in s.events) (log_len s.events + s.live) s.spent (bounds_of s.limits) []) ∙ c.if-not-may_take.false in
    let held = held_stand v c.hold.result w u c.if-not-hold.false c.hold.ensures.told os ((second_known c.args.object v w c.requires.counted).0) c.requires.counted in
    let put = field_stand n i v c.set_field-old.result os u x (field_is n i v c.set_field-old.result u c.set_field-old.ensures.old) (field_set_is n i v u (objects_of c.set_field-old.new.self) c.set_field-old.ensures.put [])
    (held_below v c.hold.result w u c.if-not-hold.false c.hold.ensures.told n os takes c.requires.counted) held in
    first_gives c.args.object (v ∷ []) y (given_stand c.set_field-old.result os x y (c.give.ensures.given []) put)

pub returns-clause-told : goal.returns-clause-told
returns-clause-told g c = λ z home.
    let s = c.args.store.now in
    let t = record c.hold.new.store { heap = c.set_field-old.new.self } in
    let w = world_of (λ v. (g.dyn-1.0.entry v).1) s in
    let u = world_of (λ v. (g.dyn-1.0.entry v).1) c.hold.new.store in
    let x = world_of (λ v. (g.dyn-1.0.entry v).1) t in
    let y = world_of (λ v. (g.dyn-1.0.entry v).1) c.give.new.store in
    let last = world_of (λ v. (g.dyn-1.0.entry v).1) c.give-2.new.store in
    stored z home c.in-Some.number c.args.index c.args.object c.args.value w (sym c.number_of.ensures.exact ∙ c.in-Some.is) c.hold.result u c.hold.ensures.told
    (λ is. sym (c.may_take.ensures.exact (counts_of (λ v. (g.dyn-1.0.entry v).1) (members s.drivers)) (values_in s.globals) (listed_in s.events) (log_len s.events + s.live) s.spent (bounds_of s.limits) is) ∙ c.if-not-may_take.false)
    c.set_field-old.result x y last c.if-not-hold.false (field_is c.in-Some.number c.args.index c.args.value c.set_field-old.result u c.set_field-old.ensures.old)
    (field_set_is c.in-Some.number c.args.index c.args.value u (objects_of c.set_field-old.new.self) c.set_field-old.ensures.put) c.give.ensures.given c.give-2.ensures.given

pub returns-clause-moves : goal.returns-clause-moves
returns-clause-moves g c = λ roles.
    let t = record c.hold.new.store { heap = c.set_field-old.new.self } in
    moves_join _ roles c.args.store.now c.give.new.store c.give-2.new.store
    (moves_join _ roles c.args.store.now t c.give.new.store
    (moves_join _ roles c.args.store.now c.hold.new.store t (c.hold.ensures.moves roles) (moves_heap_within _ roles c.hold.new.store c.set_field-old.new.self c.set_field-old.ensures.counted c.set_field-old.ensures.less))
    (c.give.ensures.moves roles))
    (c.give-2.ensures.moves roles)

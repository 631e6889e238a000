use Rattle.std.proofs.Common.{[], ◌∷◌, sym, ◌∙◌}
use Rattle.ang_heap.specs.Heaps.{objects_of}
use Rattle.ang_heap.specs.Stores.{world_of}
use Rattle.ang_heap.proofs.Storing.{moves_join}
use Rattle.ang_meaning.specs.World.{with_inputs}
use Rattle.ang_meaning.specs.declared.slot.Slot.TheVariants.{Bits}
use Rattle.ang_meaning.proofs.Telling.{told_same}
use Rattle.ang_vm_ask.proofs.Movings.{moves_heap_within}
use Rattle.ang_vm_ask.proofs.ObjectOperands.{bits_stand, field_stand, second_gives}
use Rattle.ang_vm_ask.proofs.FieldOperations.{field_is, field_set_is, change_null, changed, not_changed}
use Rattle.ang_vm_ask.proofs.fields.alter.Goals as goal

pub returns-in-None-clause-told : goal.returns-in-None-clause-told
returns-in-None-clause-told g c = λ z home.
    told_same (λ is. change_null z home c.args.index c.args.by c.args.object c.args.operand (with_inputs is (world_of (λ v. (g.dyn-1.0.entry v).1) c.args.store.now)) (sym c.number_of.ensures.exact ∙ c.in-None.is))

pub give-requires-clause-ready : goal.give-requires-clause-ready
give-requires-clause-ready g c = (moves_heap_within _ [] c.args.store.now c.set_field.new.self c.set_field.ensures.counted c.set_field.ensures.less).ready c.requires.ready

pub give-requires-clause-enough : goal.give-requires-clause-enough
give-requires-clause-enough g c =
    let t = record c.args.store.now { heap = c.set_field.new.self } in
    let w = world_of (λ v. (g.dyn-1.0.entry v).1) c.args.store.now in
    let u = world_of (λ v. (g.dyn-1.0.entry v).1) t in
    let n = c.in-Some.number in
    let i = c.args.index in
    let v = Bits c.in-Ok.altered.stored in
    let os = c.args.object ∷ c.args.operand ∷ [] in
    second_gives c.set_field.result c.args.object (c.args.operand ∷ []) u
    (field_stand n i v c.set_field.result os w u (field_is n i v c.set_field.result w c.set_field.ensures.old) (field_set_is n i v w (objects_of c.set_field.new.self) c.set_field.ensures.put [])
    (λ r e. tt) (bits_stand c.in-Ok.altered.stored os w c.requires.counted))

pub returns-in-Ok-clause-told : goal.returns-in-Ok-clause-told
returns-in-Ok-clause-told g c = λ z home.
    let t = record c.args.store.now { heap = c.set_field.new.self } in
    let w = world_of (λ v. (g.dyn-1.0.entry v).1) c.args.store.now in
    let u = world_of (λ v. (g.dyn-1.0.entry v).1) t in
    let x = world_of (λ v. (g.dyn-1.0.entry v).1) c.give.new.store in
    changed z home c.in-Some.number c.args.index c.args.by c.args.object c.args.operand c.field-old.result w (sym c.number_of.ensures.exact ∙ c.in-Some.is) c.change_slot.result c.field-old.ensures.exact c.change_slot.ensures.exact
    c.in-Ok.altered u x c.in-Ok.is (field_set_is c.in-Some.number c.args.index (Bits c.in-Ok.altered.stored) w (objects_of c.set_field.new.self) c.set_field.ensures.put) c.give.ensures.given

pub returns-in-Ok-clause-moves : goal.returns-in-Ok-clause-moves
returns-in-Ok-clause-moves g c = λ roles.
    let t = record c.args.store.now { heap = c.set_field.new.self } in
    moves_join _ roles c.args.store.now t c.give.new.store (moves_heap_within _ roles c.args.store.now c.set_field.new.self c.set_field.ensures.counted c.set_field.ensures.less) (c.give.ensures.moves roles)

pub returns-in-Err-clause-told : goal.returns-in-Err-clause-told
returns-in-Err-clause-told g c = λ z home.
    not_changed z home c.in-Some.number c.args.index c.args.by c.args.object c.args.operand c.field-old.result (world_of (λ v. (g.dyn-1.0.entry v).1) c.args.store.now) (sym c.number_of.ensures.exact ∙ c.in-Some.is)
    c.change_slot.result c.field-old.ensures.exact c.change_slot.ensures.exact c.in-Err.fault c.in-Err.is

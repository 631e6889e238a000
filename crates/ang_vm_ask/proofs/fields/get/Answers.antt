use Rattle.std.proofs.Common.{[], ◌∷◌, sym, ◌∙◌}
use Rattle.ang_heap.specs.Stores.{world_of}
use Rattle.ang_heap.proofs.Storing.{moves_join}
use Rattle.ang_meaning.specs.World.{with_inputs}
use Rattle.ang_meaning.specs.declared.slot.Slot.TheVariants.{Bits}
use Rattle.ang_meaning.proofs.Telling.{told_same}
use Rattle.ang_vm_ask.proofs.ObjectOperands.{field_known, held_stand, second_gives}
use Rattle.ang_vm_ask.proofs.FieldOperations.{field_is, get_null, got, not_got}
use Rattle.ang_vm_ask.proofs.fields.get.Goals as goal

pub returns-in-None-clause-told : goal.returns-in-None-clause-told
returns-in-None-clause-told g c = λ z home.
    told_same (λ is. get_null z home c.args.index c.args.object (with_inputs is (world_of (λ v. (g.dyn-1.0.entry v).1) c.args.store.now)) (sym c.number_of.ensures.exact ∙ c.in-None.is))

pub hold-requires : goal.hold-requires
hold-requires g c =
    let w = world_of (λ v. (g.dyn-1.0.entry v).1) c.args.store.now in
    record { there = (field_known c.in-Some.number c.args.index c.field-found.result (c.args.object ∷ []) w (field_is c.in-Some.number c.args.index (Bits 0) c.field-found.result w c.field-found.ensures.exact) c.requires.counted).1 }

pub returns-then-not-hold-clause-told : goal.returns-then-not-hold-clause-told
returns-then-not-hold-clause-told g c =
    let w = world_of (λ v. (g.dyn-1.0.entry v).1) c.args.store.now in
    let u = world_of (λ v. (g.dyn-1.0.entry v).1) c.hold.new.store in
    λ z home. not_got z home c.in-Some.number c.args.index c.args.object c.field-found.result c.hold.result w u (sym c.number_of.ensures.exact ∙ c.in-Some.is) c.hold.ensures.told c.field-found.ensures.exact c.if-not-hold.true

pub give-requires-clause-ready : goal.give-requires-clause-ready
give-requires-clause-ready g c = (c.hold.ensures.moves []).ready c.requires.ready

pub give-requires-clause-enough : goal.give-requires-clause-enough
give-requires-clause-enough g c =
    let w = world_of (λ v. (g.dyn-1.0.entry v).1) c.args.store.now in
    let u = world_of (λ v. (g.dyn-1.0.entry v).1) c.hold.new.store in
    let v = c.field-found.result in
    let known = field_known c.in-Some.number c.args.index v (c.args.object ∷ []) w (field_is c.in-Some.number c.args.index (Bits 0) v w c.field-found.ensures.exact) c.requires.counted in
    second_gives v c.args.object [] u (held_stand v c.hold.result w u c.if-not-hold.false c.hold.ensures.told (c.args.object ∷ []) known.0 c.requires.counted)

pub returns-clause-told : goal.returns-clause-told
returns-clause-told g c =
    let w = world_of (λ v. (g.dyn-1.0.entry v).1) c.args.store.now in
    let u = world_of (λ v. (g.dyn-1.0.entry v).1) c.hold.new.store in
    let x = world_of (λ v. (g.dyn-1.0.entry v).1) c.give.new.store in
    λ z home. got z home c.in-Some.number c.args.index c.args.object c.field-found.result c.hold.result w u (sym c.number_of.ensures.exact ∙ c.in-Some.is) c.hold.ensures.told c.field-found.ensures.exact x c.if-not-hold.false c.give.ensures.given

pub returns-clause-moves : goal.returns-clause-moves
returns-clause-moves g c = λ roles. moves_join _ roles c.args.store.now c.hold.new.store c.give.new.store (c.hold.ensures.moves roles) (c.give.ensures.moves roles)

use Rattle.std.proofs.Common.{[], ◌∷◌, ap, ◌∙◌, subst}
use Rattle.ang_heap.specs.Stores.{world_of}
use Rattle.ang_meaning.specs.World.{with_inputs, give}
use Rattle.ang_meaning.specs.declared.slot.Slot.TheVariants.{Script}
use Rattle.ang_meaning.proofs.Telling.{told_same, told_then}
use Rattle.ang_meaning.specs.Hosts.{Fine}
use Rattle.ang_meaning.specs.Counting.{CanGive}
use Rattle.ang_vm_stack.specs.Tables.{setting_of}
use Rattle.ang_vm_ask.proofs.ObjectOperands.{first_gives}
use Rattle.ang_vm_ask.proofs.FieldOperations.{bits_cast, key_cast, null_cast, object_cast, other_cast}
use Rattle.ang_vm_ask.proofs.fields.cast_value.Goals as goal

pub returns-in-Bits-clause-told : goal.returns-in-Bits-clause-told
returns-in-Bits-clause-told g c = λ nesting. told_same (λ is.
    bits_cast (setting_of c.args.table.now nesting) c.args.home c.args.class _ c.args.value (with_inputs is (world_of (λ v. (g.dyn-1.0.entry v).1) c.args.store.now)) c.in-Bits.is)

pub returns-in-Host-clause-told : goal.returns-in-Host-clause-told
returns-in-Host-clause-told g c = λ nesting. told_same (λ is.
    key_cast (setting_of c.args.table.now nesting) c.args.home c.args.class _ _ c.args.value (with_inputs is (world_of (λ v. (g.dyn-1.0.entry v).1) c.args.store.now)) c.in-Host.is)

pub returns-in-None-clause-told : goal.returns-in-None-clause-told
returns-in-None-clause-told g c = λ nesting. told_same (λ is.
    null_cast (setting_of c.args.table.now nesting) c.args.home c.args.class c.args.value (with_inputs is (world_of (λ v. (g.dyn-1.0.entry v).1) c.args.store.now)) (c.in-Script.is ∙ ap Script c.in-None.is)
    ∙ ap (λ v. Fine v (with_inputs is (world_of (λ v. (g.dyn-1.0.entry v).1) c.args.store.now))) c.in-Script.is)

pub returns-then-is_under-clause-told : goal.returns-then-is_under-clause-told
returns-then-is_under-clause-told g c = λ nesting.
    told_then (object_cast (setting_of c.args.table.now nesting) c.args.home c.args.class c.in-Some.number c.args.value c.class.result c.is_under.result (world_of (λ v. (g.dyn-1.0.entry v).1) c.args.store.now)
    (c.in-Script.is ∙ ap Script c.in-Some.is) c.class.ensures.exact (c.is_under.ensures.exact nesting) c.if-is_under.true)
    (told_same (λ is. ap (λ v. Fine v (with_inputs is (world_of (λ v. (g.dyn-1.0.entry v).1) c.args.store.now))) c.in-Script.is))

pub give-requires-clause-enough : goal.give-requires-clause-enough
give-requires-clause-enough g c =
    let w = world_of (λ v. (g.dyn-1.0.entry v).1) c.args.store.now in
    subst (λ v. CanGive (v ∷ []) w) c.in-Script.is (first_gives c.args.value [] w c.requires.counted)

pub returns-clause-told : goal.returns-clause-told
returns-clause-told g c = λ nesting.
    other_cast (setting_of c.args.table.now nesting) c.args.home c.args.class c.in-Some.number c.args.value c.class.result c.is_under.result (world_of (λ v. (g.dyn-1.0.entry v).1) c.args.store.now)
    (c.in-Script.is ∙ ap Script c.in-Some.is) c.class.ensures.exact (c.is_under.ensures.exact nesting) (world_of (λ v. (g.dyn-1.0.entry v).1) c.give.new.store) c.if-is_under.false
    (λ is. ap (λ v. give v (with_inputs is (world_of (λ v. (g.dyn-1.0.entry v).1) c.args.store.now))) c.in-Script.is ∙ c.give.ensures.given is)

use Rattle.std.proofs.Common.{None, is_some, sym, refl, ap, ◌∙◌}
use Rattle.ang_meaning.specs.declared.slot.Slot.TheVariants.{Bits, Script}
use Rattle.ang_heap.specs.Numbers.{number_in}
use Rattle.ang_heap.proofs.Heaping.{field_read, no_field, field_lent}
use Rattle.ang_heap.proofs.numbers.put_number_of.Goals as goal

pub returns-in-Some-clause-exact : goal.returns-in-Some-clause-exact
returns-in-Some-clause-exact c =
    c.put_number_in.ensures.exact
    ∙ ap (λ v. is_some (number_in v)) (field_read c.args.records.now c.args.number c.args.index c.in-Some.object.now _ (Script None) (sym c.in-Some.ensures.value) refl)

pub returns-in-Some-clause-put : goal.returns-in-Some-clause-put
returns-in-Some-clause-put c = λ t.
    field_lent c.args.records.now c.args.number c.args.index (Bits c.args.value) c.in-Some.object.now c.put_number_in.new.object (sym c.in-Some.ensures.value) (c.put_number_in.ensures.put t)

pub returns-in-None-clause-exact : goal.returns-in-None-clause-exact
returns-in-None-clause-exact c = ap (λ v. is_some (number_in v)) (no_field c.args.records.now c.args.number c.args.index (Script None) (sym c.in-None.ensures.value))

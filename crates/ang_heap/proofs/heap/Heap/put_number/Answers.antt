use Rattle.std.specs.FinMap as map
use Rattle.ang_meaning.specs.Perform.{field_of}
use Rattle.ang_heap.specs.Heaps.{objects_of}
use Rattle.ang_heap.proofs.Numbering.{field_place, number_was}
use Rattle.ang_meaning.specs.declared.slot.Slot.TheVariants.{Bits}
use Rattle.std.proofs.Common.{sym, ap, ◌∙◌}
use Rattle.ang_heap.specs.Heaps.{objects_in}
use Rattle.ang_meaning.proofs.Slots.{number_slots}
use Rattle.ang_heap.proofs.heap.Heap.put_number.Goals as goal

pub returns-clause-there : goal.returns-clause-there
returns-clause-there c =
    let o = map.get (objects_of c.args.self.now) c.args.number in
    λ t. number_was (field_of o c.args.index) (field_place o c.args.index) c.put_number_of.result c.put_number_of.ensures.exact t

pub returns-clause-counted : goal.returns-clause-counted
returns-clause-counted c = λ e.
    e ∙ sym (number_slots c.put_number_of.result (objects_of c.args.self.now) (objects_in c.put_number_of.new.records) c.args.number c.args.index (Bits c.args.value) c.put_number_of.ensures.put
    (λ f. ap objects_in (c.put_number_of.ensures.kept f)))

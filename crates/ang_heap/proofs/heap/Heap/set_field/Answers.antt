use Rattle.std.proofs.Common.{sym, ap, ◌∙◌}
use Rattle.ang_heap.specs.Heaps.{objects_of}
use Rattle.ang_meaning.specs.Slots.{slots_of}
use Rattle.ang_heap.proofs.Heaping.{field_stored}
use Rattle.ang_meaning.proofs.Slots.{field_slots}
use Rattle.ang_heap.proofs.heap.Heap.set_field.Goals as goal

pub returns-clause-put : goal.returns-clause-put
returns-clause-put c = field_stored c.args.self.now.records c.store.new.records c.args.number c.args.index c.args.value c.store.ensures.stored c.store.ensures.missing

pub returns-clause-counted : goal.returns-clause-counted
returns-clause-counted c = λ e.
    e ∙ sym (ap slots_of (field_stored c.args.self.now.records c.store.new.records c.args.number c.args.index c.args.value c.store.ensures.stored c.store.ensures.missing)
    ∙ field_slots c.args.number c.args.index c.args.value (objects_of c.args.self.now))

use Rattle.std.proofs.Common.{None, slice_index_or, sym, ap, ◌∙◌, ◌≡◌}
use Rattle.std.specs.FinMap as map
use Rattle.std.specs.Option.{option_copied}
use Rattle.ang_meaning.specs.declared.slot.Slot.TheVariants.{Script}
use Rattle.ang_meaning.specs.Perform.{field_of}
use Rattle.ang_heap.specs.Heaps.{objects_of}
use Rattle.ang_heap.specs.Numbers.{number_in}
use Rattle.ang_heap.proofs.Heaping.{field_read, no_field}
use Rattle.ang_heap.proofs.Numbering.{field_place, number_there}
use Rattle.ang_heap.proofs.heap.Heap.number.Goals as goal

pub returns-in-Some : goal.returns-in-Some
returns-in-Some c =
    let o = map.get (objects_of c.args.self.now) c.args.number in
    let i = c.args.index in
    let exact : c.number_at.result ≡ number_in (field_of o i (Script None)) =
    c.number_at.ensures.exact
    ∙ ap number_in (field_read c.args.self.now.records c.args.number i c.in-Some.object.now _ (Script None) (sym c.get.ensures ∙ ap option_copied c.in-Some.is) (ap (λ l. slice_index_or l i (Script None)) c.as_slice.ensures.value)) in
    record { exact = exact; there = number_there (field_of o i) (field_place o i) c.number_at.result exact }

pub returns-in-None-clause-exact : goal.returns-in-None-clause-exact
returns-in-None-clause-exact c = ap number_in (no_field c.args.self.now.records c.args.number c.args.index (Script None) (sym c.get.ensures ∙ ap option_copied c.in-None.is))

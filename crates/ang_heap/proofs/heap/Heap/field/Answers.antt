use Rattle.std.proofs.Common.{slice_index_or, sym, ap, ◌∙◌}
use Rattle.std.specs.Option.{option_copied}
use Rattle.ang_heap.proofs.Heaping.{field_read, no_field}
use Rattle.ang_heap.proofs.heap.Heap.field.Goals as goal

pub returns-in-Some : goal.returns-in-Some
returns-in-Some c = record {
  exact = field_read c.args.self.now.records c.args.number c.args.index c.in-Some.object.now c.value_or.result c.args.other (sym c.get.ensures ∙ ap option_copied c.in-Some.is)
      (c.value_or.ensures.exact ∙ ap (λ l. slice_index_or l c.args.index c.args.other) c.as_slice.ensures.value);
}

pub returns-in-None : goal.returns-in-None
returns-in-None c = record { exact = no_field c.args.self.now.records c.args.number c.args.index c.args.other (sym c.get.ensures ∙ ap option_copied c.in-None.is) }

use Rattle.std.proofs.Common.{sym, ◌∙◌}
use Rattle.std.proofs.lemmas.Bool.{eqb-true, eq-eqb}
use Rattle.ang_heap.proofs.Heaping.{empty_objects, empty_slab}
use Rattle.ang_heap.proofs.heap.Heap.is_empty.Goals as goal

pub returns : goal.returns
returns c = record {
  exact = (
    (λ t. empty_objects c.args.self.now.records (eqb-true _ 0 (sym c.is_empty.ensures ∙ t))),
    (λ e. c.is_empty.ensures ∙ eq-eqb _ 0 (empty_slab c.args.self.now.records e)),
  );
}

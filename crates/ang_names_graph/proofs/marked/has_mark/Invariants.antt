use Rattle.std.specs.Prelude.{false, ◌≡◌, ◌+◌, slice_index_or}
use Rattle.ang_names_graph.specs.Graphs.{some_below}
use Rattle.ang_names_graph.proofs.marked.has_mark.Given as goal

abbrev pub invariant-loop-k : goal.invariant-loop-k
invariant-loop-k l = l.any ≡ some_below (λ m. slice_index_or l.row (l.start + m) false) l.k

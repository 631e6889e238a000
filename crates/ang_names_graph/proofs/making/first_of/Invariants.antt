use Rattle.std.specs.Prelude.{◌≡◌, find}
use Rattle.std.specs.List.{range_with_len}
use Rattle.ang_names_graph.specs.Tables.{edges_of}
use Rattle.ang_names_graph.proofs.making.first_of.Given as goal

abbrev pub invariant-loop-j : goal.invariant-loop-j
invariant-loop-j l = l.first ≡ find (edges_of l.edges l.n l.i) (range_with_len 0 l.j)

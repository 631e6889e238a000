use Rattle.std.specs.Prelude.{◌≡◌}
use Rattle.ang_names_graph.specs.Graphs.{numbers_below}
use Rattle.ang_names_graph.specs.Tables.{edges_of}
use Rattle.ang_names_graph.proofs.orders.targets_of.Given as goal

abbrev pub invariant-loop-j : goal.invariant-loop-j
invariant-loop-j l = l.places.items ≡ numbers_below (edges_of l.edges l.n l.i) l.j

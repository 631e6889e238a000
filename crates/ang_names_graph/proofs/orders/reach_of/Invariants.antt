use Rattle.std.specs.Prelude.{◌≡◌, ◌≤◌}
use Rattle.ang_names_graph.specs.Graphs.{count_below}
use Rattle.ang_names_graph.specs.Tables.{edges_of}
use Rattle.ang_names_graph.proofs.orders.reach_of.Given as goal

abbrev pub invariant-loop-j : goal.invariant-loop-j
invariant-loop-j l = (l.count ≡ count_below (edges_of l.closed l.n l.i) l.j) × (l.count ≤ l.j)

use Rattle.ang_names_graph.specs.Graphs.{leads}
use Rattle.ang_names_graph.specs.Tables.{Shows, edges_of}
use Rattle.ang_names_graph.proofs.close.Given as goal

abbrev pub invariant-loop-k : goal.invariant-loop-k
invariant-loop-k l = Shows l.table l.n (leads (edges_of l.initial.table l.n) l.k)

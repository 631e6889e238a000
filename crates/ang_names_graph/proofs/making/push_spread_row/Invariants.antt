use Rattle.std.specs.Prelude.{◌≡◌, ◌++◌}
use Rattle.ang_names_graph.specs.Tables.{row_below, is_spread}
use Rattle.ang_names_graph.proofs.making.push_spread_row.Given as goal

abbrev pub invariant-loop-j : goal.invariant-loop-j
invariant-loop-j l = l.table.items ≡ l.initial.table.items ++ row_below (is_spread l.marks l.closed l.n l.i) l.j

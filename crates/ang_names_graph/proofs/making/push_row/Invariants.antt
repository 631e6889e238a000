use Rattle.std.specs.Prelude.{◌≡◌, ◌==◌, ◌++◌}
use Rattle.std.specs.List.{list_any}
use Rattle.ang_names_graph.specs.Tables.{row_below}
use Rattle.ang_names_graph.proofs.making.push_row.Given as goal

abbrev pub invariant-loop-j : goal.invariant-loop-j
invariant-loop-j l = l.table.items ≡ l.initial.table.items ++ row_below (λ j. list_any (λ k. k == j) l.places) l.j-counter

use Rattle.std.specs.Prelude.{ℕ, false, length, ◌≡◌, ◌<◌, ◌≤◌, ◌||◌, slice_index_or}
use Rattle.ang_names_graph.specs.Tables.{edges_of}
use Rattle.ang_names_graph.proofs.making.join_row.Given as goal

abbrev pub invariant-loop-j : goal.invariant-loop-j
invariant-loop-j l =
    (length l.row ≡ l.n)
    × ((a : ℕ) → a < l.j → slice_index_or l.row a false ≡ (slice_index_or l.initial.row a false || edges_of l.marks l.n l.place a))
    × ((a : ℕ) → l.j ≤ a → slice_index_or l.row a false ≡ slice_index_or l.initial.row a false)

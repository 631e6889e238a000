use Rattle.std.specs.Prelude.{ℕ, ◌≡◌, ◌+◌, ◌<◌, ◌≤◌, ◌||◌, ◌⊎◌, length, slice_index_or, false}
use Rattle.ang_names_graph.proofs.add_row.Given as goal

abbrev pub invariant-loop-j : goal.invariant-loop-j
invariant-loop-j l =
    (length l.table ≡ length l.initial.table)
    × ((p : ℕ) → (p < l.to) ⊎ (l.to + l.j ≤ p) → slice_index_or l.table p false ≡ slice_index_or l.initial.table p false)
    × ((j : ℕ) → j < l.j → slice_index_or l.table (l.to + j) false ≡ (slice_index_or l.initial.table (l.to + j) false || slice_index_or l.initial.table (l.from + j) false))

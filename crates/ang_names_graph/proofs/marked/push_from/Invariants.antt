use Rattle.std.specs.Prelude.{ℕ, Bool, List, length, ◌≡◌, ◌+◌}
use Rattle.ang_names_graph.specs.Marks.{IsPart}
use Rattle.ang_names_graph.proofs.marked.push_from.Given as goal

abbrev pub invariant-loop-k : goal.invariant-loop-k
invariant-loop-k l =
    (length l.near ≡ length l.row)
    × ((was : List Bool) (front : List ℕ) → IsPart l.row was front l.start l.initial.near l.initial.places.items
    → IsPart l.row was front (l.start + l.k) l.near l.places.items)

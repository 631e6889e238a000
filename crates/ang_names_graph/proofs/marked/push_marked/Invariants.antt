use Rattle.std.specs.Prelude.{◌*◌, ◌≡◌, length}
use Rattle.ang_names_graph.specs.Marks.{IsPart}
use Rattle.ang_names_graph.proofs.marked.push_marked.Given as goal

abbrev pub invariant-loop-block : goal.invariant-loop-block
invariant-loop-block l =
    (length l.near ≡ length l.row)
    × IsPart l.row l.initial.near l.initial.places.items (l.block * 16) l.near l.places.items

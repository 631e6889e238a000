use Rattle.std.specs.Prelude.{take}
use Rattle.ang_names_graph.proofs.Begun.{IsJoined}
use Rattle.ang_names_graph.proofs.making.joined_rows.Given as goal

abbrev pub invariant-loop-place : goal.invariant-loop-place
invariant-loop-place l = IsJoined l.marks l.n (take l.place-index l.places) l.row.items

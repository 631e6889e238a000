use Rattle.std.specs.Prelude.{length}
use Rattle.ang_names_graph.specs.Tables.{IsBegun}
use Rattle.ang_names_classes.specs.Hierarchy.{is_parent}
use Rattle.ang_names_classes.proofs.tables.parents_of.Given as goal

abbrev pub invariant-loop-family : goal.invariant-loop-family
invariant-loop-family l = IsBegun l.table.items (length l.placed) l.family-index (is_parent l.placed)

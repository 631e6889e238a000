use Rattle.std.specs.Prelude.{length}
use Rattle.ang_names_graph.specs.Tables.{IsBegun}
use Rattle.ang_names_classes.specs.Tables.{holds_itself}
use Rattle.ang_names_classes.proofs.tables.held_of.Given as goal

abbrev pub invariant-loop-family : goal.invariant-loop-family
invariant-loop-family l = IsBegun l.table.items (length l.families) l.family-index (holds_itself l.space l.families)

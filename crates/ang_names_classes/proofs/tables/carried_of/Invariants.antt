use Rattle.std.specs.Prelude.{length}
use Rattle.ang_names_graph.specs.Tables.{IsBegun}
use Rattle.ang_names_classes.specs.Tables.{carries}
use Rattle.ang_names_classes.proofs.tables.carried_of.Given as goal

abbrev pub invariant-loop-number : goal.invariant-loop-number
invariant-loop-number l = IsBegun l.table.items (length l.families) l.number (carries l.space l.families)

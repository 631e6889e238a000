use Rattle.ang_names_graph.specs.Tables.{IsBegun}
use Rattle.ang_names_classes.specs.Hierarchy.{holds}
use Rattle.ang_names_classes.proofs.tables.holding_of.Given as goal

abbrev pub invariant-loop-number : goal.invariant-loop-number
invariant-loop-number l = IsBegun l.table.items l.n l.number (holds l.space l.families)

use Rattle.std.proofs.Common.{take}
use Rattle.ang_names.specs.Rows.{HasRows}
use Rattle.ang_names.proofs.indexed.all_rows.Given as goal

abbrev pub invariant-loop-family : goal.invariant-loop-family
invariant-loop-family l = HasRows (take l.family-index l.families) l.found.items

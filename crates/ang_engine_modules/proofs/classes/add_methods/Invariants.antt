use Rattle.std.proofs.Common.{◌≡◌, ◌++◌, drop}
use Rattle.ang_engine_modules.specs.Trees.{own_methods}
use Rattle.ang_engine_modules.proofs.classes.add_methods.Given as goal

abbrev pub invariant-loop-row : goal.invariant-loop-row
invariant-loop-row l = l.found.items ++ own_methods l.home (drop l.row-index l.rows) ≡ l.initial.found.items ++ own_methods l.home l.rows

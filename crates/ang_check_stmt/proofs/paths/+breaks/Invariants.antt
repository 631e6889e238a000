use Rattle.std.proofs.Common.{◌≡◌, drop}
use Rattle.ang_tree.specs.View.{view_stmts}
use Rattle.ang_check_stmt.specs.Paths as spec
use Rattle.ang_check_stmt.proofs.paths.+breaks.Given as goal

abbrev pub invariant-some_break-loop-statement : goal.invariant-some_break-loop-statement
invariant-some_break-loop-statement l =
    spec.some_break (view_stmts l.statements) ≡ spec.some_break (view_stmts (drop l.statement-index l.statements))

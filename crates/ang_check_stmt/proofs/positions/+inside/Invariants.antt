use Rattle.std.proofs.Common.{◌≡◌, ◌++◌, drop}
use Rattle.ang_tree.specs.View.{view_stmts}
use Rattle.ang_check_stmt.specs.Positions.{positions_of}
use Rattle.ang_check_stmt.proofs.positions.+inside.Given as goal

abbrev pub invariant-add_each-loop-statement : goal.invariant-add_each-loop-statement
invariant-add_each-loop-statement l =
    l.found.items ++ positions_of (view_stmts (drop l.statement-index l.statements)) ≡ l.initial.found.items ++ positions_of (view_stmts l.statements)

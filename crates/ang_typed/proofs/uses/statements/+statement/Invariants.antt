use Rattle.std.proofs.Common.{◌≡◌, drop}
use Rattle.ang_typed.specs.View.{view_stmts}
use Rattle.ang_typed.specs.Marked.{stmts_marks}
use Rattle.ang_typed.proofs.uses.statements.+statement.Given as goal

abbrev pub invariant-mark_all-loop-statement : goal.invariant-mark_all-loop-statement
invariant-mark_all-loop-statement l =
    stmts_marks (view_stmts (drop l.statement-index l.statements)) l.marks.items ≡ stmts_marks (view_stmts l.statements) l.initial.marks.items

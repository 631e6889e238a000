use Rattle.std.proofs.Common.{◌≡◌, ◌++◌, drop}
use Rattle.ang_typed.specs.View.{view_stmts}
use Rattle.ang_lower.specs.Positions.{behind, core_of}
use Rattle.ang_lower.proofs.positions.+inside.Given as goal

abbrev pub invariant-place_each-loop-statement : goal.invariant-place_each-loop-statement
invariant-place_each-loop-statement l = record {
  so_far : l.positions.found.items ++ core_of (view_stmts (drop l.statement-index l.statements)) l.positions.left.now
      ≡ l.initial.positions.found.items ++ core_of (view_stmts l.statements) l.initial.positions.left.now;
  left : behind (view_stmts (drop l.statement-index l.statements)) l.positions.left.now ≡ behind (view_stmts l.statements) l.initial.positions.left.now;
}

use Rattle.std.proofs.Common.{◌≡◌, drop, map as list_map}
use Rattle.ang_tree.specs.View as trees
use Rattle.ang_typed.specs.View.{view_stmt}
use Rattle.ang_check_stmt.specs.Typing.{Keeps, stmts_typing}
use Rattle.ang_check_stmt.proofs.SoFar.{stmts_behind}
use Rattle.ang_check_stmt.proofs.statements.+statement.Given as goal

abbrev pub invariant-statements-loop-item : goal.invariant-statements-loop-item
invariant-statements-loop-item l = record {
  left : stmts_typing l.frame l.in_loop l.start l.initial.locals (trees.view_stmts l.written)
      ≡ stmts_behind (list_map view_stmt l.found.items)
      (stmts_typing l.frame l.in_loop l.start l.locals (trees.view_stmts (drop l.item-index l.written)));
  kept : Keeps l.initial.locals l.locals;
}

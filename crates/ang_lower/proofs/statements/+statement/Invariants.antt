use Rattle.std.proofs.Common.{◌≡◌, ◌+◌, ◌++◌, length, drop, map as list_map}
use Rattle.ang_typed.specs.View.{view_stmts}
use Rattle.ang_source.specs.Sound.{declared_by}
use Rattle.ang_lower.specs.Plain.{plain_stmt}
use Rattle.ang_lower.specs.Lowered.{lowered_all}
use Rattle.ang_lower.proofs.statements.+statement.Given as goal

abbrev pub invariant-add_all-loop-item : goal.invariant-add_all-loop-item
invariant-add_all-loop-item l = record {
  so_far : list_map plain_stmt l.found.items ++ lowered_all (length l.alive.items) (view_stmts (drop l.item-index l.written))
      ≡ list_map plain_stmt l.initial.found.items ++ lowered_all (length l.initial.alive.items) (view_stmts l.written);
  count : declared_by (view_stmts (drop l.item-index l.written)) + length l.alive.items ≡ declared_by (view_stmts l.written) + length l.initial.alive.items;
}

use Rattle.std.proofs.Common.{◌≡◌, ◌+◌, ◌++◌, length, drop, map as list_map}
use Rattle.ang_typed.specs.View.{view_local}
use Rattle.ang_lower.specs.Plain.{plain_stmt}
use Rattle.ang_lower.specs.Lowered.{lowered_locals}
use Rattle.ang_lower.proofs.statements.add_locals.Given as goal

abbrev pub invariant-loop-local : goal.invariant-loop-local
invariant-loop-local l = record {
  so_far : list_map plain_stmt l.found.items ++ lowered_locals (length l.alive.items) (list_map view_local (drop l.local-index l.locals))
      ≡ list_map plain_stmt l.initial.found.items ++ lowered_locals (length l.initial.alive.items) (list_map view_local l.locals);
  count : length l.alive.items ≡ l.local-index + length l.initial.alive.items;
}

use Rattle.std.proofs.Common.{◌≡◌, ◌++◌, drop, map as list_map}
use Rattle.ang_typed.specs.View.{view_expr}
use Rattle.ang_lower.specs.Plain.{plain_stmt}
use Rattle.ang_lower.specs.Lowered.{lowered_each}
use Rattle.ang_lower.proofs.statements.each.Given as goal

abbrev pub invariant-loop-item : goal.invariant-loop-item
invariant-loop-item l =
    list_map plain_stmt l.found.items ++ lowered_each l.alive (list_map view_expr (drop l.item-index l.items)) ≡ lowered_each l.alive (list_map view_expr l.items)

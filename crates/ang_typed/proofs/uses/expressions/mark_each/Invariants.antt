use Rattle.std.proofs.Common.{◌≡◌, drop, map as list_map}
use Rattle.ang_typed.specs.View.{view_expr}
use Rattle.ang_typed.specs.Marked.{each_marks, expr_marks}
use Rattle.ang_typed.proofs.uses.expressions.mark_each.Given as goal

abbrev pub invariant-loop-item : goal.invariant-loop-item
invariant-loop-item l =
    each_marks expr_marks (list_map view_expr (drop l.item-index l.items)) l.marks.items ≡ each_marks expr_marks (list_map view_expr l.items) l.initial.marks.items

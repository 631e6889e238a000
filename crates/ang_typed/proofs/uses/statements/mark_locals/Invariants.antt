use Rattle.std.proofs.Common.{◌≡◌, drop, map as list_map}
use Rattle.ang_typed.specs.View.{view_local}
use Rattle.ang_typed.specs.Marked.{each_marks, local_marks}
use Rattle.ang_typed.proofs.uses.statements.mark_locals.Given as goal

abbrev pub invariant-loop-local : goal.invariant-loop-local
invariant-loop-local l =
    each_marks local_marks (list_map view_local (drop l.local-index l.locals)) l.marks.items ≡ each_marks local_marks (list_map view_local l.locals) l.initial.marks.items

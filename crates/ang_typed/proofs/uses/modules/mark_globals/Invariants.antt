use Rattle.std.proofs.Common.{◌≡◌, drop, map as list_map}
use Rattle.ang_typed.specs.View.{view_global}
use Rattle.ang_typed.specs.Marked.{each_marks, global_marks}
use Rattle.ang_typed.proofs.uses.modules.mark_globals.Given as goal

abbrev pub invariant-loop-global : goal.invariant-loop-global
invariant-loop-global l = each_marks global_marks (list_map view_global (drop l.global-index l.globals)) l.marks.items ≡ each_marks global_marks (list_map view_global l.globals) l.initial.marks.items

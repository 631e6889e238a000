use Rattle.std.proofs.Common.{◌≡◌, drop, map as list_map}
use Rattle.ang_typed.specs.View.{view_function}
use Rattle.ang_typed.specs.Marked.{each_marks, function_marks}
use Rattle.ang_typed.proofs.uses.modules.mark_functions.Given as goal

abbrev pub invariant-loop-function : goal.invariant-loop-function
invariant-loop-function l = each_marks function_marks (list_map view_function (drop l.function-index l.functions)) l.marks.items ≡ each_marks function_marks (list_map view_function l.functions) l.initial.marks.items

use Rattle.std.proofs.Common.{◌≡◌, drop}
use Rattle.ang_typed.specs.Marked.{each_marks, class_marks}
use Rattle.ang_typed.proofs.uses.modules.mark_classes.Given as goal

abbrev pub invariant-loop-class : goal.invariant-loop-class
invariant-loop-class l = each_marks class_marks (drop l.class-index l.classes) l.marks.items ≡ each_marks class_marks l.classes l.initial.marks.items

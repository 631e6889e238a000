use Rattle.std.proofs.Common.{◌≡◌, drop}
use Rattle.ang_typed.specs.Marked.{each_marks, heading_marks}
use Rattle.ang_typed.proofs.uses.modules.mark_headings.Given as goal

abbrev pub invariant-loop-heading : goal.invariant-loop-heading
invariant-loop-heading l = each_marks heading_marks (drop l.heading-index l.headings) l.marks.items ≡ each_marks heading_marks l.headings l.initial.marks.items

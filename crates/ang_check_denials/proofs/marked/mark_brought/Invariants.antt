use Rattle.std.proofs.Common.{◌≡◌, drop}
use Rattle.ang_typed.specs.Marked.{each_marks}
use Rattle.ang_typed.specs.Uses.{marked}
use Rattle.ang_check_added.specs.Brought.{brought}
use Rattle.ang_check_denials.proofs.marked.mark_brought.Given as goal

abbrev pub invariant-loop-entry : goal.invariant-loop-entry
invariant-loop-entry l =
    each_marks (λ x. marked (brought l.masked.list l.masked.mask x)) (drop l.entry-index l.entries) l.marks.items
    ≡ each_marks (λ x. marked (brought l.masked.list l.masked.mask x)) l.entries l.initial.marks.items

use Rattle.std.proofs.Common.{◌≡◌, drop}
use Rattle.ang_typed.specs.Uses.{marked}
use Rattle.ang_check_denials.proofs.marked.mark_all.Given as goal

abbrev pub invariant-loop-number : goal.invariant-loop-number
invariant-loop-number l = marked (drop l.number-index l.numbers) l.marks.items ≡ marked l.numbers l.initial.marks.items

use Rattle.std.proofs.Common.{◌≡◌, drop}
use Rattle.ang_check_added.specs.Brought.{are_alone}
use Rattle.ang_check_denials.proofs.marked.are_alone.Given as goal

abbrev pub invariant-loop-number : goal.invariant-loop-number
invariant-loop-number l = are_alone l.masked.list l.masked.mask l.numbers ≡ are_alone l.masked.list l.masked.mask (drop l.number-index l.numbers)

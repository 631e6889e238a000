use Rattle.std.proofs.Common.{◌≡◌, drop, find}
use Rattle.ang_names_classes.specs.Slots.{is_same_at}
use Rattle.ang_names_classes.proofs.slots.first_same.Given as goal

abbrev pub invariant-loop-number : goal.invariant-loop-number
invariant-loop-number l =
    find (is_same_at l.signatures (l.function, l.read_only)) l.numbers ≡ find (is_same_at l.signatures (l.function, l.read_only)) (drop l.number-index l.numbers)

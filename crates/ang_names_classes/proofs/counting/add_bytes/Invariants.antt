use Rattle.std.proofs.Common.{◌≡◌, ◌+◌, length}
use Rattle.ang_names_classes.proofs.counting.add_bytes.Given as goal

abbrev pub invariant-loop : goal.invariant-loop
invariant-loop l = length l.bytes.items ≡ length l.initial.bytes.items + l.counter

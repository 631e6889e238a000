use Rattle.std.specs.Prelude.{false, filter, slice_index_or}
use Rattle.std.specs.List.{range_with_len}
use Rattle.std.proofs.Common.{◌≡◌}
use Rattle.ang_check_denials.proofs.marked.numbers_marked.Given as goal

abbrev pub invariant-loop-number : goal.invariant-loop-number
invariant-loop-number l = l.numbers.items ≡ filter (λ y. slice_index_or l.marks y false) (range_with_len 0 l.number)

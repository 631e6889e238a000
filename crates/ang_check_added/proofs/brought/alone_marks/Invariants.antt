use Rattle.std.specs.List.{range_with_len}
use Rattle.std.proofs.Common.{◌≡◌, map}
use Rattle.ang_check_added.specs.Brought.{is_only, numbers_at}
use Rattle.ang_check_added.proofs.brought.alone_marks.Given as goal

abbrev pub invariant-loop-number : goal.invariant-loop-number
invariant-loop-number l = l.marks.items ≡ map (λ n. is_only n (numbers_at l.rows n)) (range_with_len 0 l.number)

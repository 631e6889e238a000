use Rattle.std.specs.List.{range_with_len}
use Rattle.std.proofs.Common.{◌≡◌, map, Some}
use Rattle.ang_check_added.specs.Brought.{brought}
use Rattle.ang_check_added.proofs.brought.brought_rows.Given as goal

abbrev pub invariant-loop-number : goal.invariant-loop-number
invariant-loop-number l = l.rows ≡ map (λ n. Some (brought l.whole l.mask.0 n)) (range_with_len 0 l.number)

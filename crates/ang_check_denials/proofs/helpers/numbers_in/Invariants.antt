use Rattle.std.proofs.Common.{◌≡◌, ◌+◌, ◌≤◌, drop, length, take, vec_len, vec_capacity}
use Rattle.std.specs.Prelude.{filter}
use Rattle.ang_check_added.specs.Sets.{has}
use Rattle.ang_check_denials.proofs.helpers.numbers_in.Given as goal

abbrev pub invariant-loop-number : goal.invariant-loop-number
invariant-loop-number l = record {
  items : l.numbers.items ≡ filter (has l.set.words) (take l.number-index l.row);
  room : vec_len l.numbers + length (drop l.number-index l.row) ≤ vec_capacity l.numbers;
}

use Rattle.std.proofs.Common.{◌≡◌, ◌+◌, ◌≤◌, ◌++◌, drop, length, map, vec_len, vec_capacity}
use Rattle.ang_check_denials.specs.Denials.{row}
use Rattle.ang_check_denials.proofs.rows.append_rows.Given as goal

abbrev pub invariant-loop-number : goal.invariant-loop-number
invariant-loop-number l = record {
  items : l.initial.rows.items ++ map (row l.masked.list l.masked.mask l.refused) l.numbers
      ≡ l.rows.items ++ map (row l.masked.list l.masked.mask l.refused) (drop l.number-index l.numbers);
  room : vec_len l.rows + length (drop l.number-index l.numbers) ≤ vec_capacity l.rows;
}

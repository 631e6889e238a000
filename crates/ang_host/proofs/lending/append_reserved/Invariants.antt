use Rattle.std.proofs.Common.{◌≡◌, ◌+◌, ◌≤◌, ◌++◌, drop, length, vec_len, vec_capacity}
use Rattle.ang_host.proofs.lending.append_reserved.Given as goal

abbrev pub invariant-loop-value : goal.invariant-loop-value
invariant-loop-value l = record {
  items : l.values.items ++ drop l.value-index l.args ≡ l.initial.values.items ++ l.args;
  room : vec_len l.values + length (drop l.value-index l.args) ≤ vec_capacity l.values;
}

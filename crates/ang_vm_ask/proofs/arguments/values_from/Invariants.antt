use Rattle.std.proofs.Common.{◌≡◌, ◌≤◌, ◌+◌, ◌-◌, ◌++◌, drop, length}
use Rattle.ang_meaning.specs.Hosts.{values_of}
use Rattle.ang_vm_ask.proofs.arguments.values_from.Given as goal

abbrev pub invariant-loop-i : goal.invariant-loop-i
invariant-loop-i l = record {
  values : l.values.items ++ values_of l.driver (drop l.i l.types) (drop l.i l.slots) ≡ values_of l.driver l.types l.slots;
  room : length l.values.items + (length l.types - l.i) ≤ l.values.capacity;
}

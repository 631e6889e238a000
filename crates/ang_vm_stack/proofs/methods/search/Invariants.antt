use Rattle.std.proofs.Common.{◌≡◌, length, map as list_map}
use Rattle.ang_vm_stack.specs.Slots.{RiseFrom, entry_of}
use Rattle.ang_vm_stack.specs.Tables.{method_in}
use Rattle.ang_vm_stack.proofs.methods.search.Given as goal

abbrev pub invariant-loop-before : goal.invariant-loop-before
invariant-loop-before l = record {
  rising : RiseFrom 0 (list_map (entry_of l.home) l.left);
  same : method_in (list_map (entry_of l.home) l.left) l.slot ≡ method_in (list_map (entry_of l.home) l.rows) l.slot;
}

abbrev pub decreases-loop-before : goal.decreases-loop-before
decreases-loop-before l = length l.left

use Rattle.std.proofs.Common.{◌≡◌, map as list_map, take}
use Rattle.ang_vm_stack.specs.Slots.{entry_of}
use Rattle.ang_vm_stack.proofs.methods.rows_of.Given as goal

abbrev pub invariant-loop-entry : goal.invariant-loop-entry
invariant-loop-entry l =
    list_map (entry_of l.home) l.rows.items ≡ take l.entry-index l.entries

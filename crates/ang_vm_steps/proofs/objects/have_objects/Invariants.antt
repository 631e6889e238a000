use Rattle.std.proofs.Common.{◌≡◌, ◌-◌, drop}
use Rattle.ang_meaning.specs.Environment.{has_objects}
use Rattle.ang_vm_stack.specs.Stacks.{values}
use Rattle.ang_vm_steps.proofs.objects.have_objects.Given as goal

abbrev pub invariant-loop-i : goal.invariant-loop-i
invariant-loop-i l = has_objects l.params (values l.stack l.top) ≡ has_objects (drop l.i l.params) (values l.stack (l.top - l.i))

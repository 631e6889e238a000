use Rattle.std.proofs.Common.{◌-◌, length}
use Rattle.ang_vm.proofs.Leaving.{Kept}
use Rattle.ang_vm.proofs.returns.keep_outs.Given as goal

abbrev pub invariant-loop-i : goal.invariant-loop-i
invariant-loop-i l = Kept l.params l.initial.stack l.stack (l.top - length l.params) l.i l.kept

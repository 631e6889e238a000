use Rattle.std.proofs.Common.{◌≡◌, ◌+◌, drop}
use Rattle.ang_code.specs.Weight.{frames_left}
use Rattle.ang_vm_stack.specs.Tables.{texts_of}
use Rattle.ang_vm.specs.Waiting.{most_waiting}
use Rattle.ang_vm.proofs.calls.may_wait.Given as goal

abbrev pub invariant-loop-frame : goal.invariant-loop-frame
invariant-loop-frame l = l.last + frames_left (texts_of l.table) l.frames.items + l.room ≡ most_waiting + frames_left (texts_of l.table) (drop l.frame-index l.frames.items)

use Rattle.std.proofs.Common.{refl}
use Rattle.ang_vm_stack.proofs.Values.{value_pushed}
use Rattle.ang_vm_stack.proofs.stack.push.Goals as goal

pub returns : goal.returns
returns c = record { pushed = value_pushed c.args.stack.now c.args.top c.args.value c.requires.room; written = refl }

use Rattle.ang_vm_stack.proofs.Values.{value_at}
use Rattle.ang_vm_stack.proofs.stack.peek.Goals as goal

pub returns : goal.returns
returns c = record { exact = value_at c.args.stack.now c.args.top c.args.place _ c.requires.in_use c.requires.within }

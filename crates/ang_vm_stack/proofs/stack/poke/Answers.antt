use Rattle.ang_vm_stack.proofs.Values.{value_set}
use Rattle.ang_vm_stack.proofs.stack.poke.Goals as goal

pub returns : goal.returns
returns c = record { exact = value_set c.args.stack.now c.args.top c.args.place c.args.value c.requires.in_use c.requires.within }

use Rattle.std.proofs.Common.{arith}
use Rattle.ang_vm.proofs.Leaving.{back_lost, back_on}
use Rattle.ang_vm.proofs.returns.resume.Goals as goal

pub returns-then-parted-caller-clause-told : goal.returns-then-parted-caller-clause-told
returns-then-parted-caller-clause-told c = λ frames w.
    back_lost c.args.parted.value c.args.stack.now c.args.stack.now c.args.parted.kept c.args.ticks (omega (arith, c.requires.below)) c.args.caller frames w (omega arith)

pub returns-clause-told : goal.returns-clause-told
returns-clause-told c = λ frames w.
    back_on c.args.parted.value c.args.stack.now c.push.new.stack c.args.parted.kept c.args.ticks (omega (arith, c.requires.below)) c.args.caller frames w (omega arith) c.push.ensures.pushed

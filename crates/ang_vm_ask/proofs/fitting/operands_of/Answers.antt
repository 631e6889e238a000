use Rattle.ang_vm_ask.proofs.Fit.{called_fit, called_unfit}
use Rattle.ang_vm_ask.proofs.fitting.operands_of.Goals as goal

pub returns-in-Ask-clause-some : goal.returns-in-Ask-clause-some
returns-in-Ask-clause-some c = λ t m nesting entry.
    called_fit t m nesting c.in-Ask.field-0 c.args.operation.now c.args.host.now c.call_operands.result c.in-Ask.is entry c.call_operands.ensures.some

pub returns-in-Ask-clause-none : goal.returns-in-Ask-clause-none
returns-in-Ask-clause-none c = λ asks t m nesting entry.
    called_unfit t m nesting c.in-Ask.field-0 c.args.operation.now c.args.host.now c.call_operands.result c.in-Ask.is entry c.call_operands.ensures.none

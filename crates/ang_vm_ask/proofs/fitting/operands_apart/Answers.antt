use Rattle.ang_vm_ask.proofs.Fit.{called_fit, called_unfit, read_fit, read_unfit, written_fit, written_unfit, altered_fit, altered_unfit}
use Rattle.ang_vm_ask.proofs.fitting.operands_apart.Goals as goal

pub returns-in-Ask-clause-some : goal.returns-in-Ask-clause-some
returns-in-Ask-clause-some c = λ t m nesting entry.
    called_fit t m nesting c.in-Ask.field-0 c.args.operation.now c.args.host.now c.call_operands.result c.in-Ask.is entry c.call_operands.ensures.some

pub returns-in-Ask-clause-none : goal.returns-in-Ask-clause-none
returns-in-Ask-clause-none c = λ asks t m nesting entry.
    called_unfit t m nesting c.in-Ask.field-0 c.args.operation.now c.args.host.now c.call_operands.result c.in-Ask.is entry c.call_operands.ensures.none

pub returns-in-Read-clause-some : goal.returns-in-Read-clause-some
returns-in-Read-clause-some c = λ t m nesting entry.
    read_fit t m nesting c.in-Read.field-0 c.args.operation.now c.args.host.now c.read_operands.result c.in-Read.is entry c.read_operands.ensures.some

pub returns-in-Read-clause-none : goal.returns-in-Read-clause-none
returns-in-Read-clause-none c = λ asks t m nesting entry.
    read_unfit t m nesting c.in-Read.field-0 c.args.operation.now c.args.host.now c.read_operands.result c.in-Read.is entry c.read_operands.ensures.none

pub returns-in-Write-clause-some : goal.returns-in-Write-clause-some
returns-in-Write-clause-some c = λ t m nesting entry.
    written_fit t m nesting c.in-Write.field-0 c.args.operation.now c.args.host.now c.write_operands.result c.in-Write.is entry c.write_operands.ensures.some

pub returns-in-Write-clause-none : goal.returns-in-Write-clause-none
returns-in-Write-clause-none c = λ asks t m nesting entry.
    written_unfit t m nesting c.in-Write.field-0 c.args.operation.now c.args.host.now c.write_operands.result c.in-Write.is entry c.write_operands.ensures.none

pub returns-in-Alter-clause-some : goal.returns-in-Alter-clause-some
returns-in-Alter-clause-some c = λ t m nesting entry.
    altered_fit t m nesting c.in-Alter.field-0 c.in-Alter.field-1 c.args.operation.now c.args.host.now c.write_operands-in-Alter.result c.in-Alter.is entry c.write_operands-in-Alter.ensures.some

pub returns-in-Alter-clause-none : goal.returns-in-Alter-clause-none
returns-in-Alter-clause-none c = λ asks t m nesting entry.
    altered_unfit t m nesting c.in-Alter.field-0 c.in-Alter.field-1 c.args.operation.now c.args.host.now c.write_operands-in-Alter.result c.in-Alter.is entry c.write_operands-in-Alter.ensures.none

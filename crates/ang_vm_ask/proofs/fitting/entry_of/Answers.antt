use Rattle.std.proofs.Common.{sym}
use Rattle.ang_vm_ask.proofs.Fit.{unseen_unfit}
use Rattle.ang_vm_ask.proofs.fitting.entry_of.Goals as goal

pub returns-clause-none : goal.returns-clause-none
returns-clause-none c = λ asks nesting.
    unseen_unfit c.args.table.now c.args.home nesting c.args.operation.now c.in_ok-entity.entity c.entity_at.result (sym c.in_ok-entity.ensures.exact) c.entity_at.ensures.exact

use Rattle.std.proofs.Common.{◌-◌, sym, ◌∙◌, ap, arith}
use Rattle.ang_meaning.specs.Environment.{params_in}
use Rattle.ang_meaning.specs.Results.{local_at}
use Rattle.ang_vm_stack.specs.Stacks.{values}
use Rattle.ang_vm_stack.specs.Tables.{slot_of}
use Rattle.ang_vm_stack.proofs.Values.{values_length}
use Rattle.ang_vm_steps.proofs.Receivers.{receiver_lowest, receiver_beyond, no_receiver}
use Rattle.ang_vm_steps.proofs.callees.receiver_of.Goals as goal

pub returns-then-count-eq0 : goal.returns-then-count-eq0
returns-then-count-eq0 c = record {
  exact = sym (no_receiver (params_in (slot_of c.args.table.now c.args.home c.args.slot)) (values c.args.stack.now c.args.top) (omega (arith, c.count_of-count.ensures.exact)));
}

pub returns-then-count-top : goal.returns-then-count-top
returns-then-count-top c = record {
  exact = sym (receiver_beyond (params_in (slot_of c.args.table.now c.args.home c.args.slot)) (values c.args.stack.now c.args.top) (omega (arith, c.count_of-count.ensures.exact))
      (omega (arith, c.count_of-count.ensures.exact, values_length c.args.stack.now c.args.top c.requires.within)));
}

pub returns : goal.returns
returns c = record {
  exact = c.peek.ensures.exact ∙ ap (λ n. local_at (values c.args.stack.now c.args.top) (n - 1)) c.count_of-count.ensures.exact
      ∙ sym (receiver_lowest (params_in (slot_of c.args.table.now c.args.home c.args.slot)) (values c.args.stack.now c.args.top) (omega (arith, c.count_of-count.ensures.exact)));
}

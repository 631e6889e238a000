use Rattle.std.proofs.Common.{ap, ◌∙◌}
use Rattle.ang_meaning.specs.Results.{local_set}
use Rattle.ang_vm_stack.specs.Stacks.{values}
use Rattle.ang_vm_stack.proofs.Values.{value_set}
use Rattle.ang_vm_stack.proofs.stack.poke_number.Goals as goal

pub returns : goal.returns
returns c = record {
  exact = value_set c.args.stack.now c.args.top c.args.place _ c.requires.in_use c.requires.within
      ∙ ap (λ v. local_set (values c.args.stack.now c.args.top) c.args.place v) c.renumber.ensures.exact;
}

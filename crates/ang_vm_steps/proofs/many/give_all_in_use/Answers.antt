use Rattle.std.proofs.Common.{sym, ◌∙◌}
use Rattle.ang_meaning.specs.World.{with_inputs}
use Rattle.ang_heap.specs.Stores.{world_of}
use Rattle.ang_vm_stack.specs.Stacks.{values}
use Rattle.ang_vm_stack.proofs.Values.{values_length}
use Rattle.ang_vm_steps.proofs.Placed.{some_all}
use Rattle.ang_vm_steps.proofs.many.give_all_in_use.Goals as goal

pub returns-clause-given : goal.returns-clause-given
returns-clause-given g c = λ is.
    sym (some_all (values c.args.stack.now c.args.top) c.args.top (with_inputs is (world_of (λ v. (g.dyn-1.0.entry v).1) c.args.store.now)) (values_length c.args.stack.now c.args.top c.requires.within)) ∙ c.give_top.ensures.given is

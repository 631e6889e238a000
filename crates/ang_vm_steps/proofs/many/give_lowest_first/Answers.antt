use Rattle.ang_meaning.specs.World.{with_inputs}
use Rattle.ang_code.specs.Machine.{take_some}
use Rattle.ang_heap.specs.Stores.{world_of}
use Rattle.ang_heap.proofs.Storing.{moves_none}
use Rattle.ang_vm_stack.specs.Stacks.{values}
use Rattle.ang_vm_steps.proofs.Placed.{back_nothing}
use Rattle.ang_vm_steps.proofs.many.give_lowest_first.Goals as goal

pub returns-then-nothing_lives : goal.returns-then-nothing_lives
returns-then-nothing_lives g c =
    record {
      given = λ is. back_nothing (take_some c.args.count (values c.args.stack.now c.args.top)) (with_inputs is (world_of (λ v. (g.dyn-1.0.entry v).1) c.args.store.now)) (λ v. c.nothing_lives.ensures.nothing c.if-nothing_lives.true v is);
      moves = λ roles. moves_none _ roles _;
    }

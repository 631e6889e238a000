use Rattle.ang_meaning.specs.World.{with_inputs}
use Rattle.ang_heap.specs.Stores.{world_of}
use Rattle.ang_heap.proofs.Storing.{moves_none}
use Rattle.ang_vm_stack.specs.Stacks.{values}
use Rattle.ang_vm.proofs.Leaving.{others_nothing}
use Rattle.ang_vm.proofs.returns.give_others.Goals as goal

pub returns-then-nothing_lives : goal.returns-then-nothing_lives
returns-then-nothing_lives g c =
    record {
      given = λ is. others_nothing c.args.params.now (values c.args.stack.now c.args.top) (with_inputs is (world_of (λ v. (g.dyn-1.0.entry v).1) c.args.store.now)) (λ v. c.nothing_lives.ensures.nothing c.if-nothing_lives.true v is);
      moves = λ roles. moves_none (λ v. (g.dyn-1.0.entry v).1) roles c.args.store.now;
    }

use Rattle.std.proofs.Common.{◌≡◌, ◌+◌, ◌-◌, [], ap, ◌∙◌, refl, arith}
use Rattle.ang_meaning.specs.World.{with_inputs}
use Rattle.ang_meaning.specs.Results.{give_back}
use Rattle.ang_code.specs.Machine.{take_some}
use Rattle.ang_heap.specs.Stores.{world_of}
use Rattle.ang_heap.proofs.Storing.{moves_none, moves_join}
use Rattle.ang_vm_stack.specs.Stacks.{values}
use Rattle.ang_vm_steps.proofs.SeveralGiven.{back_turn, low_can}
use Rattle.ang_vm_steps.proofs.many.give_each_upwards.Goals as goal

pub loop-given-init : goal.loop-given-init
loop-given-init g c =
    record {
      given = λ is. refl;
      ready = c.requires.ready;
      moves = λ roles. moves_none _ roles _;
    }

pub give-requires : goal.give-requires
give-requires g c =
    record {
      ready = c.loop-given.invariant.ready;
      enough = low_can c.args.stack.now c.args.top (c.args.top - c.args.count) c.loop-given.given c.peek-value.result (with_inputs [] (world_of (λ v. (g.dyn-1.0.entry v).1) c.args.store.now)) (world_of (λ v. (g.dyn-1.0.entry v).1) c.loop-given.store)
          (omega (arith, c.requires.in_use)) c.requires.within c.peek-value.ensures.exact (c.loop-given.invariant.given []) c.requires.enough;
    }

pub loop-given-preserved : goal.loop-given-preserved
loop-given-preserved g c =
    record {
      given = λ is. back_turn c.args.stack.now (c.args.top - c.args.count) c.loop-given.given (with_inputs is (world_of (λ v. (g.dyn-1.0.entry v).1) c.args.store.now)) (with_inputs is (world_of (λ v. (g.dyn-1.0.entry v).1) c.loop-given.store)) (with_inputs is (world_of (λ v. (g.dyn-1.0.entry v).1) c.give.new.store)) c.peek-value.result
          (omega (arith, c.requires.in_use, c.requires.within)) c.peek-value.ensures.exact (c.give.ensures.given is) (c.loop-given.invariant.given is);
      ready = (c.give.ensures.moves []).ready c.loop-given.invariant.ready;
      moves = λ roles. moves_join _ roles _ _ _ (c.loop-given.invariant.moves roles) (c.give.ensures.moves roles);
    }

pub returns : goal.returns
returns g c =
    let w = world_of (λ v. (g.dyn-1.0.entry v).1) c.args.store.now in
    let n : c.args.count ≡ c.loop-given.given = omega arith in
    let m : c.args.top ≡ c.args.top - c.args.count + c.loop-given.given = omega (arith, c.requires.in_use) in
    record {
      given = λ is.
          ap (λ k. give_back (take_some k (values c.args.stack.now c.args.top)) (with_inputs is w)) n ∙ ap (λ k. give_back (take_some c.loop-given.given (values c.args.stack.now k)) (with_inputs is w)) m
          ∙ c.loop-given.invariant.given is;
      moves = c.loop-given.invariant.moves;
    }

use Rattle.std.proofs.Common.{◌≡◌, ◌-◌, [], ap, subst, refl, ◌∙◌, arith}
use Rattle.ang_meaning.specs.World.{with_inputs}
use Rattle.ang_meaning.specs.Results.{give_some, local_at}
use Rattle.ang_meaning.specs.Counting.{CanGive}
use Rattle.ang_heap.specs.Stores.{world_of}
use Rattle.ang_heap.proofs.Storing.{moves_none, moves_join}
use Rattle.ang_vm_stack.specs.Stacks.{values}
use Rattle.ang_vm_steps.proofs.SeveralGiven.{give_turn, give_over, rest_can}
use Rattle.ang_vm_steps.proofs.Placed.{top_can}
use Rattle.ang_vm_steps.proofs.many.give_each_in_line.Goals as goal

pub loop-given-init : goal.loop-given-init
loop-given-init g c =
    let w = world_of (λ v. (g.dyn-1.0.entry v).1) c.args.store.now in
    let s = values c.args.stack.now c.args.top in
    let n : c.args.count ≡ c.args.count - 0 = omega arith in
    let m : c.args.top ≡ c.args.top - 0 = omega arith in
    record {
      given = λ is. ap (λ k. give_some k s (with_inputs is w)) n ∙ ap (λ k. give_some (c.args.count - 0) (values c.args.stack.now k) (with_inputs is w)) m;
      enough = subst (λ k. CanGive (values c.args.stack.now k) w) m c.requires.enough;
      ready = c.requires.ready;
      moves = λ roles. moves_none _ roles _;
    }

pub give_last-requires-clause-ready : goal.give_last-requires-clause-ready
give_last-requires-clause-ready g c = c.loop-given.invariant.ready

pub give_last-requires-clause-enough : goal.give_last-requires-clause-enough
give_last-requires-clause-enough g c =
    top_can c.args.stack.now (c.args.top - c.loop-given.given) (local_at (values c.args.stack.now (c.args.top - c.loop-given.given)) 0) (world_of (λ v. (g.dyn-1.0.entry v).1) c.loop-given.store)
    (omega (arith, c.requires.in_use)) (omega (arith, c.requires.within)) refl c.loop-given.invariant.enough

pub loop-given-preserved : goal.loop-given-preserved
loop-given-preserved g c =
    let u = world_of (λ v. (g.dyn-1.0.entry v).1) c.loop-given.store in
    let x = world_of (λ v. (g.dyn-1.0.entry v).1) c.give_last.new.store in
    let v = local_at (values c.args.stack.now (c.args.top - c.loop-given.given)) 0 in
    record {
      given = λ is. c.loop-given.invariant.given is
          ∙ give_turn c.args.stack.now c.args.top c.args.count c.loop-given.given (with_inputs is u) (with_inputs is x) v (omega arith) c.requires.in_use c.requires.within refl (c.give_last.ensures.given is);
      enough = rest_can c.args.stack.now c.args.top c.loop-given.given v u x (omega (arith, c.requires.in_use)) c.requires.within refl (c.give_last.ensures.given []) c.loop-given.invariant.enough;
      ready = (c.give_last.ensures.moves []).ready c.loop-given.invariant.ready;
      moves = λ roles. moves_join _ roles _ _ _ (c.loop-given.invariant.moves roles) (c.give_last.ensures.moves roles);
    }

pub returns : goal.returns
returns g c =
    let u = world_of (λ v. (g.dyn-1.0.entry v).1) c.loop-given.store in
    record {
      given = λ is. c.loop-given.invariant.given is ∙ give_over (values c.args.stack.now (c.args.top - c.loop-given.given)) c.args.count c.loop-given.given (with_inputs is u) (omega arith);
      moves = c.loop-given.invariant.moves;
    }

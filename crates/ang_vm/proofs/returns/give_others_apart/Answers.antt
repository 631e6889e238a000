use Rattle.std.proofs.Common.{◌≡◌, ◌-◌, ◌+◌, [], ap, arith, ◌∙◌, subst}
use Rattle.std.proofs.lemmas.List.{get_or_default}
use Rattle.ang_meaning.specs.World.{with_inputs}
use Rattle.ang_meaning.specs.Results.{give_others}
use Rattle.ang_meaning.specs.Counting.{CanGive}
use Rattle.ang_meaning.proofs.Enough.{first_enough}
use Rattle.ang_heap.specs.Stores.{world_of}
use Rattle.ang_heap.proofs.Storing.{moves_none, moves_join}
use Rattle.ang_vm_stack.specs.Stacks.{values}
use Rattle.ang_vm_steps.proofs.WantedObjects.{none_left, value_turn}
use Rattle.ang_vm.proofs.Counting.{param_can}
use Rattle.ang_vm.proofs.Leaving.{others_turn}
use Rattle.ang_vm.proofs.returns.give_others_apart.Goals as goal

pub loop-i-init : goal.loop-i-init
loop-i-init g c =
    let e : c.args.top ≡ c.args.top - 0 = omega arith in
    record {
      given = λ is. ap (λ n. give_others c.args.params.now (values c.args.stack.now n) (with_inputs is (world_of (λ v. (g.dyn-1.0.entry v).1) c.args.store.now))) e;
      ready = c.requires.ready;
      held = subst (λ n. CanGive (values c.args.stack.now n) (world_of (λ v. (g.dyn-1.0.entry v).1) c.args.store.now)) e c.requires.held;
      moves = λ roles. moves_none (λ v. (g.dyn-1.0.entry v).1) roles c.args.store.now;
    }

pub give_unless_out-requires : goal.give_unless_out-requires
give_unless_out-requires g c =
    let w = (world_of (λ v. (g.dyn-1.0.entry v).1) c.loop-i.store) in
    let split = value_turn c.args.stack.now c.args.top c.loop-i.i c.peek-value.result (omega (arith, c.requires.enough)) c.requires.within c.peek-value.ensures.exact in
    record {
      ready = c.loop-i.invariant.ready;
      held = first_enough c.peek-value.result _ w.objects w.hosts (subst (λ l. CanGive l w) split c.loop-i.invariant.held);
    }

pub loop-i-preserved : goal.loop-i-preserved
loop-i-preserved g c =
    let w = (world_of (λ v. (g.dyn-1.0.entry v).1) c.loop-i.store) in
    let w' = (world_of (λ v. (g.dyn-1.0.entry v).1) c.give_unless_out.new.store) in
    let split = value_turn c.args.stack.now c.args.top c.loop-i.i c.peek-value.result (omega (arith, c.requires.enough)) c.requires.within c.peek-value.ensures.exact in
    record {
      given = λ is. c.loop-i.invariant.given is
          ∙ others_turn c.args.params.now c.args.stack.now c.args.top c.loop-i.i _ c.peek-value.result w w' (omega arith) c.requires.enough c.requires.within (get_or_default c.args.params.now c.loop-i.i _ _ (omega arith)) c.peek-value.ensures.exact c.give_unless_out.ensures.given is;
      ready = (c.give_unless_out.ensures.moves []).ready c.loop-i.invariant.ready;
      held = subst (λ u. CanGive (values c.args.stack.now (c.args.top - (c.loop-i.i + 1))) u) (c.give_unless_out.ensures.given []) (param_can _ c.peek-value.result _ w (subst (λ l. CanGive l w) split c.loop-i.invariant.held));
      moves = λ roles. moves_join (λ v. (g.dyn-1.0.entry v).1) roles _ _ _ (c.loop-i.invariant.moves roles) (c.give_unless_out.ensures.moves roles);
    }

pub returns : goal.returns
returns g c = record {
  given = λ is. c.loop-i.invariant.given is ∙ ap (λ ps. give_others ps (values c.args.stack.now (c.args.top - c.loop-i.i)) (with_inputs is (world_of (λ v. (g.dyn-1.0.entry v).1) c.loop-i.store))) (none_left c.args.params.now c.loop-i.i (omega arith));
  moves = c.loop-i.invariant.moves;
}

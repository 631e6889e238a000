use Rattle.std.proofs.Common.{◌≡◌, ◌+◌, ◌-◌, [], length, ap, sym, subst, refl, arith, ◌∙◌, false}
use Rattle.ang_meaning.specs.World.{with_inputs}
use Rattle.ang_meaning.specs.Results.{local_at, outs_of}
use Rattle.ang_meaning.specs.Counting.{CanGive}
use Rattle.ang_meaning.proofs.Telling.{told_same, told_then}
use Rattle.ang_vm_stack.specs.Parameters.{has_outs}
use Rattle.ang_vm_stack.specs.Stacks.{values}
use Rattle.ang_heap.specs.Stores.{world_of}
use Rattle.ang_heap.proofs.Storing.{moves_none, moves_join}
use Rattle.ang_vm.proofs.Counting.{top_can, below_can}
use Rattle.ang_vm.proofs.Leaving.{leaves_nothing, leaves_lost, leaves_on, leaves_values, back_whole}
use Rattle.ang_vm.proofs.returns.leave_body.Goals as goal

pub returns-then-top-eq0 : goal.returns-then-top-eq0
returns-then-top-eq0 g c =
    let w = (world_of (λ v. (g.dyn-1.0.entry v).1) c.args.store.now) in
    record {
      told = λ z texts f at room frames ticks known. told_same (λ is. leaves_nothing z texts f at room c.args.stack.now c.args.top c.args.count frames ticks c.requires.within (omega arith) (with_inputs is w));
      held = tt;
      fewer = tt;
      moves = λ roles. moves_none (λ v. (g.dyn-1.0.entry v).1) roles c.args.store.now;
    }

pub returns-then-count-top : goal.returns-then-count-top
returns-then-count-top g c =
    let w = (world_of (λ v. (g.dyn-1.0.entry v).1) c.args.store.now) in
    record {
      told = λ z texts f at room frames ticks known. told_same (λ is. leaves_lost z texts f at room c.args.stack.now c.args.top c.args.count frames ticks c.requires.within
          (local_at (values c.args.stack.now c.args.top) 0) (omega arith) refl (omega arith) (with_inputs is w));
      held = tt;
      fewer = tt;
      moves = λ roles. moves_none (λ v. (g.dyn-1.0.entry v).1) roles c.args.store.now;
    }

pub returns-then-params-base : goal.returns-then-params-base
returns-then-params-base g c =
    let w = (world_of (λ v. (g.dyn-1.0.entry v).1) c.args.store.now) in
    record {
      told = λ z texts f at room frames ticks known. let count = ap length (c.params-params.ensures.exact ∙ known) in told_same (λ is. leaves_lost z texts f at room c.args.stack.now c.args.top c.args.count frames ticks c.requires.within
          (local_at (values c.args.stack.now c.args.top) 0) (omega arith) refl (omega (arith, count)) (with_inputs is w));
      held = tt;
      fewer = tt;
      moves = λ roles. moves_none (λ v. (g.dyn-1.0.entry v).1) roles c.args.store.now;
    }

pub give_top_in_line-requires-clause-enough : goal.give_top_in_line-requires-clause-enough
give_top_in_line-requires-clause-enough g c =
    top_can c.args.stack.now c.args.top (world_of (λ v. (g.dyn-1.0.entry v).1) c.args.store.now) (omega arith) c.requires.within c.requires.counted

-- no parameter gives a value back
pub returns-then-not-has_outs : goal.returns-then-not-has_outs
returns-then-not-has_outs g c =
    let params = c.params-params.result.now in
    let stack = c.args.stack.now in
    let top = c.args.top in
    let count = c.args.count in
    let w = (world_of (λ v. (g.dyn-1.0.entry v).1) c.args.store.now) in
    let w' = (world_of (λ v. (g.dyn-1.0.entry v).1) c.give_top_in_line.new.store) in
    let none : has_outs params ≡ false = ap has_outs c.params-params.ensures.exact ∙ sym c.has_outs.ensures.exact ∙ c.if-not-has_outs.true in
    let below : top - 1 - (count + length params) ≡ top - 1 - count - length params = omega arith in
    record {
      told = λ z texts f at room frames ticks known. leaves_values z texts f at room stack top count frames ticks c.requires.within
          c.peek-value.result (omega arith) c.peek-value.ensures.exact params w w' (c.params-params.ensures.exact ∙ known) none (omega arith) (told_same c.give_top_in_line.ensures.given);
      held = subst (λ n. CanGive (values stack n) w') below
          (below_can stack (top - 1) (count + length params) w w' (omega arith) (omega (arith, c.requires.within)) (top_can stack top w (omega arith) c.requires.within c.requires.counted) (c.give_top_in_line.ensures.given []));
      fewer = omega arith;
      moves = c.give_top_in_line.ensures.moves;
    }

-- a parameter gives a value back
pub give_top-requires-clause-enough : goal.give_top-requires-clause-enough
give_top-requires-clause-enough g c =
    top_can c.args.stack.now c.args.top (world_of (λ v. (g.dyn-1.0.entry v).1) c.args.store.now) (omega arith) c.requires.within c.requires.counted

pub leave_params-kept-requires-clause-ready : goal.leave_params-kept-requires-clause-ready
leave_params-kept-requires-clause-ready g c = (c.give_top.ensures.moves []).ready c.requires.ready

pub leave_params-kept-requires-clause-held : goal.leave_params-kept-requires-clause-held
leave_params-kept-requires-clause-held g c =
    below_can c.args.stack.now (c.args.top - 1) c.args.count (world_of (λ v. (g.dyn-1.0.entry v).1) c.args.store.now) (world_of (λ v. (g.dyn-1.0.entry v).1) c.give_top.new.store) (omega arith) (omega (arith, c.requires.within))
    (top_can c.args.stack.now c.args.top (world_of (λ v. (g.dyn-1.0.entry v).1) c.args.store.now) (omega arith) c.requires.within c.requires.counted) (c.give_top.ensures.given [])

pub returns : goal.returns
returns g c =
    let base = c.args.top - 1 - c.args.count in
    let outs = outs_of c.params-params.result.now (values c.args.stack.now base) in
    let rest = values c.args.stack.now (base - length c.params-params.result.now) in
    let all = values c.leave_params-kept.new.stack c.leave_params-kept.result in
    let w2 = (world_of (λ v. (g.dyn-1.0.entry v).1) c.leave_params-kept.new.store) in
    record {
      told = λ z texts f at room frames ticks known. told_then
          (leaves_on z texts f at room c.args.stack.now c.args.top c.args.count frames ticks c.requires.within
          c.peek-value-2.result (omega arith) c.peek-value-2.ensures.exact c.params-params.result.now ((world_of (λ v. (g.dyn-1.0.entry v).1) c.args.store.now)) (world_of (λ v. (g.dyn-1.0.entry v).1) c.give_top.new.store) w2 outs rest
          (c.params-params.ensures.exact ∙ known) (omega arith) (told_same c.give_top.ensures.given) (told_same c.leave_params-kept.ensures.given) refl refl)
          (told_same (λ is. back_whole frames c.peek-value-2.result outs rest all ticks (with_inputs is w2) c.leave_params-kept.ensures.kept));
      held = c.leave_params-kept.ensures.held;
      fewer = omega (arith, c.leave_params-kept.ensures.fewer);
      moves = λ roles. moves_join (λ v. (g.dyn-1.0.entry v).1) roles _ _ _ (c.give_top.ensures.moves roles) (c.leave_params-kept.ensures.moves roles);
    }

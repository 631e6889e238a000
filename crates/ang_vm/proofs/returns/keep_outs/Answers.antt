use Rattle.std.proofs.Common.{◌≡◌, ◌+◌, ◌-◌, ◌++◌, length, drop, ap, ◌∙◌, arith}
use Rattle.std.proofs.lemmas.List.{get_or_default}
use Rattle.ang_meaning.specs.Results.{outs_of}
use Rattle.ang_vm_stack.specs.Stacks.{values}
use Rattle.ang_vm.proofs.Leaving.{kept_none, kept_turn}
use Rattle.ang_vm.proofs.returns.keep_outs.Goals as goal

pub loop-i-init : goal.loop-i-init
loop-i-init c = kept_none c.args.params.now c.args.stack.now (c.args.top - length c.args.params.now)

pub loop-i-preserved : goal.loop-i-preserved
loop-i-preserved c =
    let base = c.args.top - length c.args.params.now in
    kept_turn c.args.params.now c.args.stack.now c.loop-i.stack c.keep_if_out-kept.new.stack base c.loop-i.i c.loop-i.kept c.keep_if_out-kept.result _ c.peek-value.result (omega arith) (omega (arith, c.requires.enough, c.requires.within)) c.loop-i.auto.stack (get_or_default c.args.params.now (length c.args.params.now - 1 - c.loop-i.i) _ _ (omega arith)) c.peek-value.ensures.exact c.loop-i.invariant
    c.keep_if_out-kept.ensures.kept c.keep_if_out-kept.ensures.unmoved c.keep_if_out-kept.ensures.most

pub returns : goal.returns
returns c =
    let n = length c.args.params.now in
    let i = c.loop-i.i in
    let base = c.args.top - n in
    let k = c.loop-i.invariant in
    let front : n - i ≡ 0 = omega arith in
    let all : base + i ≡ c.args.top = omega (arith, c.requires.enough) in
    record {
      kept = k.moved ∙ ap (λ m. outs_of (drop m c.args.params.now) (values c.args.stack.now (base + i)) ++ values c.args.stack.now base) front
          ∙ ap (λ m. outs_of c.args.params.now (values c.args.stack.now m) ++ values c.args.stack.now base) all;
      fewer = omega (arith, k.low);
    }

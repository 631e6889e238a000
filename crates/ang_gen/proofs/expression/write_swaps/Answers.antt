use Rattle.std.proofs.Common.{◌+◌, ◌∷◌, ◌++◌, refl, ap, ◌∙◌, arith}
use Rattle.ang_gen.specs.Code.{swaps_code}
use Rattle.ang_gen.proofs.Turns.{swaps_turn_at, swaps_end}
use Rattle.ang_gen.proofs.expression.write_swaps.Goals as goal

pub loop-target-preserved : goal.loop-target-preserved
loop-target-preserved c = (
  swaps_turn_at c.args.base c.loop-target.under (c.loop-target.under + 1) c.loop-target.target-index c.args.targets.now _ c.loop-target.text c.put.new.self
      (swaps_code 1 c.args.base c.args.targets.now ++ c.args.text.now) c.loop-target-test.true c.loop-target.invariant.0
      (c.in_ok-put.ensures.before ∙ ap (λ j. j ∷ c.loop-target.text) c.in_ok-swap.ensures.exact) refl,
  omega (arith, c.loop-target.invariant.1),
)

pub returns : goal.returns
returns c =
    record {
      code =
          swaps_end c.args.base c.loop-target.under c.loop-target.target-index c.args.targets.now c.loop-target.text (swaps_code 1 c.args.base c.args.targets.now ++ c.args.text.now)
          c.loop-target-test.false c.loop-target.invariant.0;
    }

use Rattle.std.proofs.Common.{◌≡◌, ◌≤◌, length, arith, ap, sym, ◌∙◌}
use Rattle.ang_view.specs.Blanks.{blanked}
use Rattle.ang_view.proofs.Blanking.{all_blank, none_blank, one_blank_more}
use Rattle.ang_view.proofs.Keeping.{length-only}
use Rattle.ang_view.proofs.view.View.blank.Goals as goal

pub loop-number-init : goal.loop-number-init
loop-number-init c =
    let here : c.args.first ≤ c.args.first = omega arith in
    (sym (none_blank c.args.first c.args.first c.args.self.now here), λ h. here)

pub blank_one-requires : goal.blank_one-requires
blank_one-requires c =
    let long : length c.loop-number.self ≡ length c.args.self.now = ap length c.loop-number.invariant.0 ∙ length-only _ c.args.self.now in
    record { there = omega (arith, long, c.loop-number-test.true, c.requires.within) }

pub loop-number-preserved : goal.loop-number-preserved
loop-number-preserved c = (
  c.blank_one.ensures.blanked ∙ ap (λ list. blanked list c.loop-number.number) c.loop-number.invariant.0
      ∙ one_blank_more c.args.first c.loop-number.number c.args.self.now c.loop-number.auto.number,
  λ h. omega (arith, h, c.loop-number-test.true),
)

pub returns : goal.returns
returns c =
    record {
      blanked =
          c.loop-number.invariant.0
          ∙ all_blank c.args.first c.loop-number.number c.args.after c.args.self.now c.loop-number.auto.number c.loop-number-test.false c.loop-number.auto.number-end
          c.loop-number.invariant.1;
    }

use Rattle.std.proofs.Common.{◌≡◌, ◌+◌, ◌*◌, arith, refl, sym, ◌∙◌, take, get_or}
use Rattle.std.specs.Char.{digit_value}
use Rattle.std.specs.Str.Parse.{digits_value}
use Rattle.std.proofs.lemmas.Int.Digits.{digits_value_more}
use Rattle.ang_lex.proofs.Digits.{next_value_le}
use Rattle.ang_lex.proofs.numbers.value_of.Goals as goal

pub returns-in_err-value : goal.returns-in_err-value
returns-in_err-value c =
    record {
      exact =
          let at_most = next_value_le c.args.base c.loop-b.b-index c.args.digits.now (omega arith) c.loop-b-test.true in
          let same : c.loop-b.value * c.args.base + c.digit_value.result ≡ digits_value c.args.base (take c.loop-b.b-index c.args.digits.now) * c.args.base + digit_value (get_or c.args.digits.now c.loop-b.b-index 0)
          = rw (c.loop-b.invariant.0, c.digit_value.ensures.value) refl in
          let large = c.in_err-value.ensures.exact in
          rw c.from_residual.ensures (λ small. large (omega (arith, small, same, at_most)));
    }

pub loop-b-preserved : goal.loop-b-preserved
loop-b-preserved c =
    let more = digits_value_more c.args.base c.args.digits.now c.loop-b.b-index c.loop-b-test.true in
    let same : c.loop-b.value * c.args.base + c.digit_value.result ≡ digits_value c.args.base (take c.loop-b.b-index c.args.digits.now) * c.args.base + digit_value (get_or c.args.digits.now c.loop-b.b-index 0)
    = rw (c.loop-b.invariant.0, c.digit_value.ensures.value) refl in
    let pushed = c.in_ok-value.ensures.exact in
    (pushed.1 ∙ same ∙ sym more, omega (arith, pushed.0, pushed.1))

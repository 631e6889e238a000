use Rattle.std.proofs.Common.{◌≡◌, ◌*◌, ◌+◌, arith, refl, ◌∙◌}
use Rattle.std.specs.Char.{digit_value}
use Rattle.asrun_lines.proofs.Numerals.{reads_broken, reads_large, reads_more, reads_whole}
use Rattle.asrun_lines.proofs.fields.numeral.Goals as goal

pub returns-in_err-digit : goal.returns-in_err-digit
returns-in_err-digit c = record {
  exact = c.from_residual.ensures ∙ reads_broken c.args.base c.loop-b.n c.loop-b.b-index c.from.result c.args.text.now c.loop-b.invariant.1 (omega arith) c.from.ensures c.in_err-digit.ensures.value;
}

pub returns-in_err-checked_mul : goal.returns-in_err-checked_mul
returns-in_err-checked_mul c = record {
  exact = c.from_residual-in_err-checked_mul.ensures ∙ reads_large c.args.base c.loop-b.n c.loop-b.b-index c.from.result c.args.text.now (omega arith) c.loop-b.invariant.1 (omega arith)
      c.from.ensures c.in_ok-digit.ensures.value.0 (λ h. c.in_err-checked_mul.ensures (rw c.from-in-loop-b.ensures (omega (arith, h))));
}

pub returns-in_err-n : goal.returns-in_err-n
returns-in_err-n c = record {
  exact = c.from_residual-in_err-n.ensures ∙ reads_large c.args.base c.loop-b.n c.loop-b.b-index c.from.result c.args.text.now (omega arith) c.loop-b.invariant.1 (omega arith)
      c.from.ensures c.in_ok-digit.ensures.value.0
      (λ h. c.in_err-n.ensures (rw (c.in_ok-checked_mul.ensures.1, c.from-in-loop-b.ensures, c.from-in-loop-b-2.ensures, c.in_ok-digit.ensures.value.1) h));
}

pub loop-b-preserved : goal.loop-b-preserved
loop-b-preserved c =
    let more = reads_more c.args.base c.loop-b.n c.loop-b.b-index c.from.result c.args.text.now c.loop-b.invariant.1 (omega arith) c.from.ensures c.in_ok-digit.ensures.value.0 in
    let sum : c.in_ok-n.n ≡ c.loop-b.n * c.args.base + digit_value c.from.result =
    rw (c.in_ok-n.ensures.1, c.in_ok-checked_mul.ensures.1, c.from-in-loop-b.ensures, c.from-in-loop-b-2.ensures, c.in_ok-digit.ensures.value.1) refl in
    (rw c.in_ok-n.ensures.1 c.in_ok-n.ensures.0, rw sum more)

pub returns : goal.returns
returns c = record { exact = reads_whole c.args.base c.loop-b.n c.loop-b.b-index c.args.text.now c.loop-b.invariant.1 (omega arith) c.loop-b.invariant.0 }

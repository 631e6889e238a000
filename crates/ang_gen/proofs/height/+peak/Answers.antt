use Rattle.std.proofs.Common.{◌≡◌, ◌+◌, length, ap, sym, ◌∙◌, arith}
use Rattle.std.specs.Prelude.{max}
use Rattle.std.specs.Vec.{vec_len}
use Rattle.std.specs.declared.alloc.Global.{Global}
use Rattle.std.specs.declared.vec.Vec.{Vec}
use Rattle.ang_meaning.specs.declared.routine.Target.{Target}
use Rattle.ang_gen.specs.Peaks.{peak, list_peak}
use Rattle.ang_gen.proofs.Lists.{apply_peak, call_peak}
use Rattle.ang_gen.proofs.Turns.{greater_is, peak_turn, peak_end}
use Rattle.ang_gen.proofs.height.+peak.Goals as goal

pub expression_peak-returns-in_ok-inner-in-Apply : goal.expression_peak-returns-in_ok-inner-in-Apply
expression_peak-returns-in_ok-inner-in-Apply t c =
    let d = c.args.below in
    record {
      exact =
          c.max.ensures
          ∙ ap (λ n. max n c.in_ok-inner-in-Apply.inner) c.in_ok-own-in-Apply.ensures.exact
          ∙ ap (λ n. max (d + 1) n) (c.in_ok-inner-in-Apply.ensures.exact ∙ ap (λ l. list_peak d l) c.deref-in-Apply.ensures.value)
          ∙ sym (apply_peak d c.in-Apply.field-0 c.in-Apply.operands)
          ∙ ap (λ x. peak d x) (sym c.in-Apply.is);
    }

pub expression_peak-returns-in_ok-inner-in-Call : goal.expression_peak-returns-in_ok-inner-in-Call
expression_peak-returns-in_ok-inner-in-Call t c =
    let d = c.args.below in
    let count : c.len.result ≡ length c.in-Call.targets.value.items = c.len.ensures ∙ ap (λ (v : Vec Target Global). vec_len v) c.deref-in-Call.ensures ∙ c.in-Call.targets.value.ok.0 in
    let own : c.in_ok-own-in-Call.own ≡ length c.in-Call.targets.value.items + d + 1 = omega (arith, c.in_ok-own-in-Call.ensures.exact, c.in_ok-outs-in-Call.ensures.exact) in
    record {
      exact =
          c.max-in-Call.ensures
          ∙ ap (λ n. max n c.in_ok-inner-in-Call.inner) own
          ∙ ap (λ n. max (length c.in-Call.targets.value.items + d + 1) n) (c.in_ok-inner-in-Call.ensures.exact ∙ ap (λ l. list_peak d l) c.deref-in-Call-2.ensures.value)
          ∙ sym (call_peak d c.in-Call.field-0 c.in-Call.operands c.in-Call.targets)
          ∙ ap (λ x. peak d x) (sym c.in-Call.is);
    }

pub operands_peak-loop-e-preserved : goal.operands_peak-loop-e-preserved
operands_peak-loop-e-preserved t c =
    peak_turn c.loop-e.next c.in_ok-next.next c.loop-e.e-index c.loop-e.highest c.max-highest.result c.in_ok-expression_peak.field-0 (list_peak c.args.below c.args.operands.now)
    c.args.operands.now c.e-item.result c.loop-e-test.true c.e-item.is c.loop-e.invariant c.in_ok-expression_peak.ensures.exact c.in_ok-next.ensures.exact (c.max-highest.ensures ∙ greater_is c.loop-e.highest c.in_ok-expression_peak.field-0)

pub operands_peak-returns : goal.operands_peak-returns
operands_peak-returns t c =
    record {
      exact =
          peak_end c.loop-e.next c.loop-e.e-index c.loop-e.highest (list_peak c.args.below c.args.operands.now) c.args.operands.now c.loop-e-test.false c.loop-e.invariant;
    }

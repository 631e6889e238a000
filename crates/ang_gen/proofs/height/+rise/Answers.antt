use Rattle.std.proofs.Common.{◌≡◌, ◌+◌, IfSome, ap, sym, subst, ◌∙◌}
use Rattle.ang_core.specs.Sound.{declared}
use Rattle.ang_gen.specs.Peaks.{statement_peak, statements_peak}
use Rattle.ang_gen.proofs.Lists.{block_peak}
use Rattle.ang_gen.proofs.Turns.{greater_is, rise_turn, rise_end}
use Rattle.ang_gen.proofs.height.+rise.Goals as goal

pub statement_peak-returns-in-Block : goal.statement_peak-returns-in-Block
statement_peak-returns-in-Block t c =
    let n = c.args.alive in
    let same : statements_peak n c.deref-in-Block.result.now ≡ statement_peak n c.args.s.now =
    ap (λ l. statements_peak n l) c.deref-in-Block.ensures.value ∙ sym (block_peak n c.in-Block.row) ∙ ap (λ x. statement_peak n x) (sym c.in-Block.is) in
    record { exact = subst (λ m. IfSome c.row_peak.result (λ top. top ≡ m)) same c.row_peak.ensures.exact }

pub row_peak-loop-s-preserved : goal.row_peak-loop-s-preserved
row_peak-loop-s-preserved t c =
    let there : c.in_ok-here.here ≡ declared c.s-item.result + c.loop-s.here = c.in_ok-here.ensures.exact ∙ ap (λ n. n + c.loop-s.here) c.declared_by.ensures.count in
    rise_turn c.loop-s.here c.in_ok-here.here c.loop-s.s-index c.loop-s.highest c.max-highest.result c.in_ok-statement_peak.field-0 (statements_peak c.args.alive c.args.row.now)
    c.args.row.now c.s-item.result c.loop-s-test.true c.s-item.is c.loop-s.invariant c.in_ok-statement_peak.ensures.exact there (c.max-highest.ensures ∙ greater_is c.loop-s.highest c.in_ok-statement_peak.field-0)

pub row_peak-returns : goal.row_peak-returns
row_peak-returns t c =
    record {
      exact =
          rise_end c.loop-s.here c.loop-s.s-index c.loop-s.highest (statements_peak c.args.alive c.args.row.now) c.args.row.now c.loop-s-test.false c.loop-s.invariant;
    }

use Rattle.std.proofs.Common.{arith, refl, sym, ◌∙◌}
use Rattle.std.proofs.lemmas.Result.{err_from_is_err_and}
use Rattle.ang_engine.proofs.Lists.{all_within, within_join}
use Rattle.asrun_session.proofs.Doing.{done_nothing, done_more, done_half, done_cut, done_bad, done_bad_cut, done_all}
use Rattle.asrun_session.proofs.Turns.{session_end, session_skipped, session_bad, session_act}
use Rattle.asrun_session.proofs.run.run_session.Goals as goal

pub loop-line-init : goal.loop-line-init
loop-line-init g c = record { lines = omega arith; sound = c.requires.sound; limits = refl; list = all_within _; order = refl; done = done_nothing _ _ _ _ _ _ }

pub loop-line-preserved-then-is_skipped : goal.loop-line-preserved-then-is_skipped
loop-line-preserved-then-is_skipped g c =
    let next = session_skipped c.loop-line.number c.loop-line.ticks c.in-Some.line.now c.shown-line.result.now _ _ c.in-Some.ensures.some c.shown-line.ensures.exact
    (sym c.is_skipped.ensures.exact ∙ c.if-is_skipped.true) in
    record {
      lines = omega (arith, c.in-Some.ensures.shorter);
      sound = c.loop-line.invariant.sound;
      limits = c.loop-line.invariant.limits;
      list = c.loop-line.invariant.list;
      order = c.loop-line.invariant.order;
      done = rw next at c.loop-line.invariant.done;
    }

pub returns-in_err-ok-in-Ok-clause-cut : goal.returns-in_err-ok-in-Ok-clause-cut
returns-in_err-ok-in-Ok-clause-cut g c =
    let p = err_from_is_err_and c.from_residual.result c.from_residual.ensures.1 in
    let next = session_act c.loop-line.number c.loop-line.ticks c.in-Some.line.now c.shown-line.result.now _ _ (record { action = c.in-Ok.act.action; lines = c.in-Ok.act.lines })
    c.in-Some.ensures.some c.shown-line.ensures.exact (sym c.is_skipped.ensures.exact ∙ c.if-is_skipped.false) c.in-Ok.ensures.exact.0 c.in-Ok.ensures.exact.2 in
    rw p.1 (done_half _ _ _ _ _ _ _ _ _ _ _ _ _ _ _ _ _ c.loop-line.invariant.done next c.in_err-ok-in-Ok.ensures.cut.done)

pub returns-in_err-ok-in-Ok-clause-within : goal.returns-in_err-ok-in-Ok-clause-within
returns-in_err-ok-in-Ok-clause-within g c = within_join _ _ _ c.loop-line.invariant.list c.in_err-ok-in-Ok.ensures.within

pub loop-line-preserved : goal.loop-line-preserved
loop-line-preserved g c =
    let next = session_act c.loop-line.number c.loop-line.ticks c.in-Some.line.now c.shown-line.result.now _ _ (record { action = c.in-Ok.act.action; lines = c.in-Ok.act.lines })
    c.in-Some.ensures.some c.shown-line.ensures.exact (sym c.is_skipped.ensures.exact ∙ c.if-is_skipped.false) c.in-Ok.ensures.exact.0 c.in-Ok.ensures.exact.2 in
    record {
      lines = omega (arith, c.in-Some.ensures.shorter, c.in-Ok.ensures.room);
      sound = c.in_ok-ok-in-Ok.ensures.sound;
      limits = c.in_ok-ok-in-Ok.ensures.limits ∙ c.loop-line.invariant.limits;
      list = within_join _ _ _ c.loop-line.invariant.list c.in_ok-ok-in-Ok.ensures.within;
      order = c.in_ok-ok-in-Ok.ensures.order ∙ c.loop-line.invariant.order;
      done = rw (c.in_ok-ok-in-Ok.ensures.budget, c.in-Ok.ensures.exact.1)
          (done_more _ _ _ _ _ _ _ _ _ _ _ _ _ _ _ _ _ _ _ c.loop-line.invariant.done next c.in_ok-ok-in-Ok.ensures.done.done c.in_ok-ok-in-Ok.ensures.done.list);
    }

pub returns-in_err-print_bad_line-in-Err-BadLine-clause-cut :
    goal.returns-in_err-print_bad_line-in-Err-BadLine-clause-cut
returns-in_err-print_bad_line-in-Err-BadLine-clause-cut g c =
    let p = err_from_is_err_and c.from_residual-in_err-print_bad_line-in-Err-BadLine.result c.from_residual-in_err-print_bad_line-in-Err-BadLine.ensures.1 in
    let bad = session_bad c.loop-line.number c.loop-line.ticks c.in-Some.line.now c.shown-line.result.now _ _
    c.in-Some.ensures.some c.shown-line.ensures.exact (sym c.is_skipped.ensures.exact ∙ c.if-is_skipped.false) (rw c.in-Err-BadLine.field-0-is at c.in-Err-BadLine.ensures.exact) in
    rw p.1 (done_bad_cut _ _ _ _ _ _ _ _ _ _ _ _ _ c.loop-line.number c.loop-line.invariant.done bad c.in_err-print_bad_line-in-Err-BadLine.ensures.front)

pub returns-in-Err-BadLine-clause-done : goal.returns-in-Err-BadLine-clause-done
returns-in-Err-BadLine-clause-done g c =
    let bad = session_bad c.loop-line.number c.loop-line.ticks c.in-Some.line.now c.shown-line.result.now _ _
    c.in-Some.ensures.some c.shown-line.ensures.exact (sym c.is_skipped.ensures.exact ∙ c.if-is_skipped.false) (rw c.in-Err-BadLine.field-0-is at c.in-Err-BadLine.ensures.exact) in
    done_bad _ _ _ _ _ _ _ _ _ _ _ _ _ c.loop-line.number c.loop-line.invariant.done bad c.in_ok-print_bad_line-in-Err-BadLine.ensures.whole

pub returns-in-Err-Memory-clause-cut : goal.returns-in-Err-Memory-clause-cut
returns-in-Err-Memory-clause-cut g c = done_cut _ _ _ _ _ _ _ _ _ _ _ _ c.loop-line.invariant.done

pub returns-then-all_ok-clause-done : goal.returns-then-all_ok-clause-done
returns-then-all_ok-clause-done g c =
    rw c.if-all_ok.true at (done_all _ _ _ _ _ _ _ _ _ _ _ _ c.loop-line.invariant.done (session_end c.loop-line.number c.loop-line.ticks _ c.in_default.ensures.none))

pub returns-else-all_ok-clause-done : goal.returns-else-all_ok-clause-done
returns-else-all_ok-clause-done g c =
    rw c.if-all_ok.false at (done_all _ _ _ _ _ _ _ _ _ _ _ _ c.loop-line.invariant.done (session_end c.loop-line.number c.loop-line.ticks _ c.in_default.ensures.none))

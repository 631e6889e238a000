use Rattle.asrun_text.specs.Trace.{trace_line_text}
use Rattle.asrun_session.proofs.Added.{adds_none, adds_both, adds_then_front}
use Rattle.asrun_session.proofs.Held.{on_err}
use Rattle.asrun_session.proofs.inquiries.add_frames.Goals as goal

pub loop-depth-init : goal.loop-depth-init
loop-depth-init g c = adds_none trace_line_text _ _

pub loop-depth-preserved : goal.loop-depth-preserved
loop-depth-preserved g c =
    adds_both trace_line_text _ _ _ _ _ _ c.loop-depth.invariant c.in_ok-add_frame.ensures.whole

pub returns-in_err-add_frame-clause-front : goal.returns-in_err-add_frame-clause-front
returns-in_err-add_frame-clause-front g c =
    on_err c.from_residual.result
    (adds_then_front trace_line_text _ _ _ _ _ c.loop-depth.invariant c.in_err-add_frame.ensures.front)

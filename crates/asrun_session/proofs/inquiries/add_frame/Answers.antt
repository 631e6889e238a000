use Rattle.asrun_text.specs.Trace.{trace_line, trace_line_text}
use Rattle.asrun_session.proofs.Added.{adds_front_none, adds_one, adds_front_one, ok_to, err_to}
use Rattle.asrun_session.proofs.Held.{on_err}
use Rattle.asrun_session.proofs.inquiries.add_frame.Goals as goal

pub returns-in_err-push_trace_frame-clause-front :
    goal.returns-in_err-push_trace_frame-clause-front
returns-in_err-push_trace_frame-clause-front g c =
    on_err c.from_residual.result (adds_front_none trace_line_text _ _)

pub returns-clause-whole : goal.returns-clause-whole
returns-clause-whole g c =
    ok_to c.settle.result _ _
    (λ h. adds_one trace_line_text _ _ _ _ (trace_line c.in-Some.frame) (rw c.in_ok-push_trace_frame.ensures.added at h)) c.settle.ensures.whole

pub returns-clause-front : goal.returns-clause-front
returns-clause-front g c =
    err_to c.settle.result _ _
    (λ h. adds_front_one trace_line_text _ _ _ (trace_line c.in-Some.frame) (rw c.in_ok-push_trace_frame.ensures.added at h)) c.settle.ensures.front

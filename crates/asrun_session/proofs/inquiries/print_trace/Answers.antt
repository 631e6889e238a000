use Rattle.std.proofs.Common.{codes, ◌∙◌, subst}
use Rattle.std.specs.Io.KnownBytes.{Appends}
use Rattle.asrun_text.specs.Trace.{trace_line_text}
use Rattle.asrun_session.specs.Writing.{HasFront}
use Rattle.asrun_session.proofs.Added.{ends_front, ends_held, ends_written, ends_whole}
use Rattle.asrun_session.proofs.Held.{on_err}
use Rattle.asrun_session.proofs.inquiries.print_trace.Goals as goal

pub returns-in_err-add_frames-clause-front : goal.returns-in_err-add_frames-clause-front
returns-in_err-add_frames-clause-front g c =
    let told = ends_front trace_line_text _ _ _ (codes "ok\n") c.clear.ensures.items c.in_err-add_frames.ensures.front in
    on_err c.from_residual.result (record { frames = told.0; front = told.1 })

pub returns-in_err-push_text-clause-front : goal.returns-in_err-push_text-clause-front
returns-in_err-push_text-clause-front g c =
    let told = ends_held trace_line_text _ _ _ _ (codes "ok\n") c.clear.ensures.items c.in_ok-add_frames.ensures.whole in
    on_err c.from_residual-in_err-push_text.result (record { frames = told.0; front = told.1 })

pub returns-in_err-write_text-clause-front : goal.returns-in_err-write_text-clause-front
returns-in_err-write_text-clause-front g c =
    let front = subst (λ l. HasFront (g.W.Write.contents c.add_frames.new.writer) (g.W.Write.contents c.write_text.new.writer) l)
    (c.as_slice.ensures.value ∙ c.in_ok-push_text.ensures.added) c.in_err-write_text.ensures.front in
    let told = ends_written trace_line_text _ _ _ _ _ (codes "ok\n") c.clear.ensures.items c.in_ok-add_frames.ensures.whole front in
    on_err c.from_residual-in_err-write_text.result (record { frames = told.0; front = told.1 })

pub returns-clause-whole : goal.returns-clause-whole
returns-clause-whole g c =
    let whole = subst (λ l. Appends (g.W.Write.contents c.add_frames.new.writer) (g.W.Write.contents c.write_text.new.writer) l)
    (c.as_slice.ensures.value ∙ c.in_ok-push_text.ensures.added) c.in_ok-write_text.ensures.whole in
    let told = ends_whole trace_line_text _ _ _ _ _ (codes "ok\n") c.clear.ensures.items c.in_ok-add_frames.ensures.whole whole in
    record { frames = told.0; printed = told.1 }

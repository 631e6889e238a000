use Rattle.std.proofs.Common.{None, ◌∙◌, subst}
use Rattle.std.specs.Io.KnownBytes.{Appends}
use Rattle.ang_engine_modules.specs.declared.reply.Outcome.TheVariants.{Done}
use Rattle.asrun_text.specs.Text.{outcome_text}
use Rattle.asrun_session.specs.Inquiries.{declared_line}
use Rattle.asrun_session.specs.Writing.{HasFront}
use Rattle.asrun_session.proofs.Added.{ends_front, ends_held, ends_written, ends_whole}
use Rattle.asrun_session.proofs.Held.{on_err}
use Rattle.asrun_session.proofs.inquiries.print_declarations.Goals as goal

pub returns-in_err-outcome-clause-front : goal.returns-in_err-outcome-clause-front
returns-in_err-outcome-clause-front g c =
    let told = ends_front declared_line _ _ _ (outcome_text (Done None)) c.clear.ensures.items c.in_err-outcome.ensures.front in
    on_err c.from_residual.result (record { lines = told.0; outcome = Done None; front = told.1 })

pub returns-in_err-push_outcome-clause-front : goal.returns-in_err-push_outcome-clause-front
returns-in_err-push_outcome-clause-front g c =
    let told = ends_held declared_line _ _ _ _ (outcome_text c.in_ok-outcome.outcome) c.clear.ensures.items c.in_ok-outcome.ensures.whole in
    on_err c.from_residual-in_err-push_outcome.result (record { lines = told.0; outcome = c.in_ok-outcome.outcome; front = told.1 })

pub returns-in_err-write_text-clause-front : goal.returns-in_err-write_text-clause-front
returns-in_err-write_text-clause-front g c =
    let front = subst (λ l. HasFront (g.W.Write.contents c.add_listing.new.writer) (g.W.Write.contents c.write_text.new.writer) l)
    (c.as_slice.ensures.value ∙ c.in_ok-push_outcome.ensures.added) c.in_err-write_text.ensures.front in
    let told = ends_written declared_line _ _ _ _ _ (outcome_text c.in_ok-outcome.outcome) c.clear.ensures.items c.in_ok-outcome.ensures.whole front in
    on_err c.from_residual-in_err-write_text.result (record { lines = told.0; outcome = c.in_ok-outcome.outcome; front = told.1 })

pub returns-clause-whole : goal.returns-clause-whole
returns-clause-whole g c =
    let whole = subst (λ l. Appends (g.W.Write.contents c.add_listing.new.writer) (g.W.Write.contents c.write_text.new.writer) l)
    (c.as_slice.ensures.value ∙ c.in_ok-push_outcome.ensures.added) c.in_ok-write_text.ensures.whole in
    let told = ends_whole declared_line _ _ _ _ _ (outcome_text c.in_ok-outcome.outcome) c.clear.ensures.items c.in_ok-outcome.ensures.whole whole in
    record { lines = told.0; outcome = c.in_ok-outcome.outcome; printed = told.1; ended = c.is_done.ensures.exact }

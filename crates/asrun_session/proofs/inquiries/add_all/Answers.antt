use Rattle.asrun_session.specs.Inquiries.{declared_line}
use Rattle.asrun_session.proofs.Added.{adds_both, adds_then_front}
use Rattle.asrun_session.proofs.Held.{on_err}
use Rattle.asrun_session.proofs.inquiries.add_all.Goals as goal

pub returns-in_err-globals-clause-front : goal.returns-in_err-globals-clause-front
returns-in_err-globals-clause-front g c =
    on_err c.from_residual-in_err-globals.result
    (adds_then_front declared_line _ _ _ _ _ c.in_ok-functions.ensures.whole c.in_err-globals.ensures.front)

pub returns-in_err-imports-clause-front : goal.returns-in_err-imports-clause-front
returns-in_err-imports-clause-front g c =
    on_err c.from_residual-in_err-imports.result
    (adds_then_front declared_line _ _ _ _ _
    (adds_both declared_line _ _ _ _ _ _ c.in_ok-functions.ensures.whole c.in_ok-globals.ensures.whole) c.in_err-imports.ensures.front)

pub returns-clause-whole : goal.returns-clause-whole
returns-clause-whole g c =
    adds_both declared_line _ _ _ _ _ _
    (adds_both declared_line _ _ _ _ _ _ c.in_ok-functions.ensures.whole c.in_ok-globals.ensures.whole) c.in_ok-imports.ensures.whole

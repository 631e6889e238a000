use Rattle.asrun_session.specs.Inquiries.{declared_line}
use Rattle.asrun_session.proofs.Added.{adds_none, adds_both, adds_then_front}
use Rattle.asrun_session.proofs.Held.{on_err}
use Rattle.asrun_session.proofs.inquiries.add_declarations.Goals as goal

pub loop-number-init : goal.loop-number-init
loop-number-init g c = adds_none declared_line _ _

pub loop-number-preserved : goal.loop-number-preserved
loop-number-preserved g c =
    adds_both declared_line _ _ _ _ _ _ c.loop-number.invariant c.in_ok-next.ensures.whole

pub returns-in_err-next-clause-front : goal.returns-in_err-next-clause-front
returns-in_err-next-clause-front g c =
    on_err c.from_residual.result
    (adds_then_front declared_line _ _ _ _ _ c.loop-number.invariant c.in_err-next.ensures.front)

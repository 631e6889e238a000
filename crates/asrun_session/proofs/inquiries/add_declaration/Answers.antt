use Rattle.asrun_session.specs.Inquiries.{declared_line}
use Rattle.asrun_session.proofs.Added.{adds_one, adds_front_one}
use Rattle.asrun_session.proofs.Held.{on_err}
use Rattle.asrun_session.proofs.inquiries.add_declaration.Goals as goal

pub returns-in_err-add_line-in-Ok-true-clause-front :
    goal.returns-in_err-add_line-in-Ok-true-clause-front
returns-in_err-add_line-in-Ok-true-clause-front g c =
    on_err c.from_residual.result (adds_front_one declared_line _ _ _ _ c.in_err-add_line-in-Ok-true.ensures.front)

pub returns-in_ok-add_line-in-Ok-true-clause-whole :
    goal.returns-in_ok-add_line-in-Ok-true-clause-whole
returns-in_ok-add_line-in-Ok-true-clause-whole g c =
    adds_one declared_line _ _ _ _ _ c.in_ok-add_line-in-Ok-true.ensures.whole

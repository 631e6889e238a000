use Rattle.std.proofs.Common.{arith}
use Rattle.std.proofs.lemmas.List.{get_or_default}
use Rattle.asrun_text.specs.Text.{denial_text}
use Rattle.asrun_session.proofs.Held.{on_err, held_start, lines_turn, lines_front, lines_all}
use Rattle.asrun_session.proofs.printing.add_denials_after.Goals as goal

pub loop-denial-init : goal.loop-denial-init
loop-denial-init g c = held_start _ _

pub loop-denial-preserved : goal.loop-denial-preserved
loop-denial-preserved g c =
    lines_turn denial_text _ _ _ _ _ _ c.args.denials.now c.loop-denial.denial-index _ c.loop-denial.invariant c.loop-denial-test.true
    (get_or_default _ _ _ _ c.loop-denial-test.true) c.in_ok-add_denial.ensures.whole

pub returns-in_err-add_denial-clause-front : goal.returns-in_err-add_denial-clause-front
returns-in_err-add_denial-clause-front g c =
    on_err c.from_residual.result (lines_front denial_text _ _ _ _ _ c.args.denials.now c.loop-denial.denial-index _ c.loop-denial.invariant c.loop-denial-test.true
    (get_or_default _ _ _ _ c.loop-denial-test.true) c.in_err-add_denial.ensures.front)

pub returns-clause-whole : goal.returns-clause-whole
returns-clause-whole g c =
    lines_all denial_text _ _ _ _ c.args.denials.now c.loop-denial.denial-index c.loop-denial.invariant (omega (arith, c.loop-denial-test.false))

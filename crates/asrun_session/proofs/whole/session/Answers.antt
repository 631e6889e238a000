use Rattle.std.proofs.Common.{refl}
use Rattle.asrun_session.proofs.Telling.{tells, tells_nothing, tells_untaken, unwritten_untaken}
use Rattle.asrun_session.proofs.whole.session.Goals as goal

pub returns-in_default-clause-output : goal.returns-in_default-clause-output
returns-in_default-clause-output g c =
    tells_nothing (λ v. (g.dyn-1.0.entry v).1) c.args.drivers.items c.args.drivers.items (g.P.Read.remaining c.args.profile.now) (g.S.Read.remaining c.args.session.now) c.args.budget (g.W.Write.contents c.args.out.now) refl

pub returns-clause-output : goal.returns-clause-output
returns-clause-output g c =
    rw c.outcome_of-2.ensures.exact (tells (λ v. (g.dyn-1.0.entry v).1) c.args.drivers.items c.run_drivers-ended.result.1.items _ (g.P.Read.remaining c.args.profile.now) (g.S.Read.remaining c.args.session.now) c.args.budget _ _ _ c.run_drivers-ended.result.0
    (rw c.in-Ok-true.field-0-test at c.in-Ok-true.ensures.done) c.run_drivers-ended.ensures.done c.run_drivers-ended.ensures.cut c.run_drivers-ended.ensures.fault)

pub returns-in-Err-clause-output : goal.returns-in-Err-clause-output
returns-in-Err-clause-output g c =
    rw c.outcome_of.ensures.exact (tells_untaken (λ v. (g.dyn-1.0.entry v).1) c.args.drivers.items _ (g.P.Read.remaining c.args.profile.now)
    (g.S.Read.remaining c.args.session.now) c.args.budget _ _ c.in-Err.stop refl c.in-Err.ensures.cut c.in-Err.ensures.fault)

pub returns-in-Err-clause-session_read : goal.returns-in-Err-clause-session_read
returns-in-Err-clause-session_read g c =
    rw c.outcome_of.ensures.exact (unwritten_untaken _ _ (g.P.Read.remaining c.args.profile.now) c.in-Err.stop c.in-Err.ensures.refused)

use Rattle.std.proofs.Common.{refl, sym, subst}
use Rattle.ang_host.specs.State.{call}
use Rattle.ang_host.specs.Laws.{AreLive}
use Rattle.ang_drivers.specs.Limited.{limited_state}
use Rattle.ang_drivers.proofs.Limiting.{call_counted, answered_full, answered_refused, answered_over, answered_reset, inside_args}
use Rattle.ang_drivers.proofs.limited.LimitedDriver.call.Goals as goal

pub returns-then-is_full : goal.returns-then-is_full
returns-then-is_full g c =
    let l = c.self.inside.calls in
    rw (← c.self.view_is) (record {
      law =
          answered_full g.D.Driver.meaning.fits l.limit l.left l.asked (g.D.Driver.meaning.state c.self.inside.driver) (call c.args.f c.args.object c.args.args.now)
          c.self.invariant (c.if-is_full.ensures.exact.0 refl);
    })

pub returns-then-f-self : goal.returns-then-f-self
returns-then-f-self g c =
    let l = c.self.inside.calls in
    rw (c.reset.ensures.counted, ← c.self.view_is) (record {
      law =
          answered_reset g.D.Driver.meaning.fits l.limit l.left l.asked (g.D.Driver.meaning.state c.self.inside.driver) c.args.f c.args.object c.args.args.now
          c.self.invariant c.if-f-self.true;
    })

pub returns-then-self-eq0 : goal.returns-then-self-eq0
returns-then-self-eq0 g c =
    let l = c.self.inside.calls in
    rw (c.refuse.ensures.counted, ← c.self.view_is) (record {
      law =
          answered_refused g.D.Driver.meaning.fits l.limit l.left l.asked (g.D.Driver.meaning.state c.self.inside.driver) (call c.args.f c.args.object c.args.args.now)
          c.self.invariant (call_counted c.self.inside.calls.limit c.args.f c.args.object c.args.args.now c.if-f-self.false) c.if-self-eq0.true c.refuse.result c.refuse.ensures.fault refl;
    })

pub call-answer-requires-clause-args_live : goal.call-answer-requires-clause-args_live
call-answer-requires-clause-args_live g c =
    let l = c.self.inside.calls in
    inside_args l.limit l.left l.asked (g.D.Driver.meaning.state c.self.inside.driver) c.args.args.now (subst (λ v. AreLive (limited_state g.D.Driver.meaning.state v) c.args.args.now) (sym c.self.view_is) c.requires.args_live)

pub returns : goal.returns
returns g c =
    let l = c.self.inside.calls in
    let state = g.D.Driver.meaning.state in
    rw (← c.self.view_is) (record {
      law =
          answered_over g.D.Driver.meaning.fits l.limit l.left l.asked (state c.self.inside.driver) (state c.call-answer.new.self) (call c.args.f c.args.object c.args.args.now) (call_counted c.self.inside.calls.limit c.args.f c.args.object c.args.args.now c.if-f-self.false)
          c.if-self-eq0.false c.self.invariant c.pass.new.self.limit c.pass.new.self.left c.pass.new.self.asked c.is_full-2.result
          c.pass.ensures.limit c.pass.ensures.left c.pass.ensures.asked c.call-answer.result c.is_full-2.ensures.exact c.call-answer.ensures.law;
    })

use Rattle.std.proofs.Common.{refl}
use Rattle.ang_host.specs.State.{write}
use Rattle.ang_drivers.proofs.Limiting.{write_counted, answered_full, answered_refused, answered_over}
use Rattle.ang_drivers.proofs.limited.LimitedDriver.write.Goals as goal

pub returns-then-is_full : goal.returns-then-is_full
returns-then-is_full g c =
    let l = c.self.inside.calls in
    rw (← c.self.view_is) (record {
      law =
          answered_full g.D.Driver.meaning.fits l.limit l.left l.asked (g.D.Driver.meaning.state c.self.inside.driver) (write c.args.f c.args.object c.args.value)
          c.self.invariant (c.if-is_full.ensures.exact.0 refl);
    })

pub returns-then-self-eq0 : goal.returns-then-self-eq0
returns-then-self-eq0 g c =
    let l = c.self.inside.calls in
    rw (c.refuse.ensures.counted, ← c.self.view_is) (record {
      law =
          answered_refused g.D.Driver.meaning.fits l.limit l.left l.asked (g.D.Driver.meaning.state c.self.inside.driver) (write c.args.f c.args.object c.args.value)
          c.self.invariant (write_counted c.self.inside.calls.limit c.args.f c.args.object c.args.value) c.if-self-eq0.true c.refuse.result c.refuse.ensures.fault refl;
    })

pub returns : goal.returns
returns g c =
    let l = c.self.inside.calls in
    let state = g.D.Driver.meaning.state in
    rw (← c.self.view_is) (record {
      law =
          answered_over g.D.Driver.meaning.fits l.limit l.left l.asked (state c.self.inside.driver) (state c.write-answer.new.self) (write c.args.f c.args.object c.args.value) (write_counted c.self.inside.calls.limit c.args.f c.args.object c.args.value)
          c.if-self-eq0.false c.self.invariant c.pass.new.self.limit c.pass.new.self.left c.pass.new.self.asked c.is_full-2.result
          c.pass.ensures.limit c.pass.ensures.left c.pass.ensures.asked c.write-answer.result c.is_full-2.ensures.exact c.write-answer.ensures.law;
    })

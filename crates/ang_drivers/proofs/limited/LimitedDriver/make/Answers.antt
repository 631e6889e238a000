use Rattle.std.proofs.Common.{refl, sym, subst}
use Rattle.ang_host.specs.State.{make}
use Rattle.ang_host.specs.Laws.{AreLive}
use Rattle.ang_drivers.specs.Limited.{limited_state}
use Rattle.ang_drivers.proofs.Limiting.{make_counted, made_full, made_refused, made_over, inside_args}
use Rattle.ang_drivers.proofs.limited.LimitedDriver.make.Goals as goal

pub returns-then-is_full : goal.returns-then-is_full
returns-then-is_full g c =
    let l = c.self.inside.calls in
    rw (← c.self.view_is) (record {
      law =
          made_full g.D.Driver.meaning.fits l.limit l.left l.asked (g.D.Driver.meaning.state c.self.inside.driver) (make c.args.f c.args.args.now)
          c.self.invariant (c.if-is_full.ensures.exact.0 refl);
    })

pub returns-then-self-eq0 : goal.returns-then-self-eq0
returns-then-self-eq0 g c =
    let l = c.self.inside.calls in
    rw (c.refuse.ensures.counted, ← c.self.view_is) (record {
      law =
          made_refused g.D.Driver.meaning.fits l.limit l.left l.asked (g.D.Driver.meaning.state c.self.inside.driver) (make c.args.f c.args.args.now)
          c.self.invariant (make_counted c.self.inside.calls.limit c.args.f c.args.args.now) c.if-self-eq0.true c.refuse.result c.refuse.ensures.fault refl;
    })

pub make-made-requires : goal.make-made-requires
make-made-requires g c =
    let l = c.self.inside.calls in
    record {
      args_live =
          inside_args l.limit l.left l.asked (g.D.Driver.meaning.state c.self.inside.driver) c.args.args.now (subst (λ v. AreLive (limited_state g.D.Driver.meaning.state v) c.args.args.now) (sym c.self.view_is) c.requires.args_live);
    }

pub returns : goal.returns
returns g c =
    let l = c.self.inside.calls in
    let state = g.D.Driver.meaning.state in
    rw (← c.self.view_is) (record {
      law =
          made_over g.D.Driver.meaning.fits l.limit l.left l.asked (state c.self.inside.driver) (state c.make-made.new.self) (make c.args.f c.args.args.now) (make_counted c.self.inside.calls.limit c.args.f c.args.args.now)
          c.if-self-eq0.false c.self.invariant c.pass.new.self.limit c.pass.new.self.left c.pass.new.self.asked c.is_full_making.result
          c.pass.ensures.limit c.pass.ensures.left c.pass.ensures.asked c.make-made.result c.is_full_making.ensures.exact c.make-made.ensures.law;
    })

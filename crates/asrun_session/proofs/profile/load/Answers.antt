use Rattle.std.proofs.Common.{arith}
use Rattle.std.proofs.lemmas.Result.{err_from_is_err_and}
use Rattle.asrun_session.proofs.Loading.{loads_more, loads_stopped, loads_all, limits_more, limits_all}
use Rattle.asrun_session.proofs.profile.load.Goals as goal

pub returns-in_err-enter_line : goal.returns-in_err-enter_line
returns-in_err-enter_line c =
    let p = err_from_is_err_and c.from_residual.result c.from_residual.ensures.1 in
    rw (p.1, p.2) record {
      exact = loads_stopped (Unit {0}) c.loop-line.number c.loop-line.profile.registry c.enter_line.new.profile.registry c.in-Some.line.now _ _ _ c.in_err-enter_line.field-0.0 c.in-Some.ensures.some
          (rw c.shown.ensures.exact at c.in_err-enter_line.ensures.exact) c.loop-line.invariant.1;
      limits = tt;
    }

pub loop-line-preserved : goal.loop-line-preserved
loop-line-preserved c = (
  omega (arith, c.in-Some.ensures.shorter),
  loads_more c.loop-line.number c.loop-line.profile.registry c.enter_line.new.profile.registry c.in-Some.line.now _ _ _ c.in-Some.ensures.some
      (rw c.shown.ensures.exact at c.in_ok-enter_line.ensures.exact) c.loop-line.invariant.1,
  limits_more c.loop-line.profile.limits c.enter_line.new.profile.limits c.in-Some.line.now _ _ _ c.in-Some.ensures.some
      (rw c.shown.ensures.exact at c.in_ok-enter_line.ensures.limits) c.loop-line.invariant.2,
)

pub returns : goal.returns
returns c = record {
  exact = loads_all c.loop-line.number c.loop-line.profile.registry _ _ c.in_default.ensures.none c.loop-line.invariant.1;
  limits = limits_all c.loop-line.profile.limits _ _ c.in_default.ensures.none c.loop-line.invariant.2;
}

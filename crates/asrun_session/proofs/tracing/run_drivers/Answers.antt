use Rattle.std.proofs.Common.{subst, sym}
use Rattle.asrun_session.specs.Drivers.{AreListed}
use Rattle.asrun_session.proofs.tracing.run_drivers.Goals as goal

pub run_engine-requires : goal.run_engine-requires
run_engine-requires g c = record {
  listed =
      subst (AreListed (λ v. (g.dyn-1.0.entry v).1)) (sym c.in-Ok.ensures.kept) (record { few = c.in-Ok.ensures.few; idle = c.in-Ok.ensures.fresh });
}

use Rattle.std.proofs.Common.{subst, sym}
use Rattle.asrun_session.specs.Drivers.{AreListed, NotListed}
use Rattle.asrun_session.specs.Whole.{start_by, list_begun}
use Rattle.asremote.proofs.Talking.{talks_refused, stops_refused}
use Rattle.asremote.proofs.conversation.run_drivers.Goals as goal

pub run_engine-requires : goal.run_engine-requires
run_engine-requires g c = record {
  listed =
      subst (AreListed (λ v. (g.dyn-1.0.entry v).1)) (sym c.in-Ok.ensures.kept) (record { few = c.in-Ok.ensures.few; idle = c.in-Ok.ensures.fresh });
}

pub returns-in-Ok : goal.returns-in-Ok
returns-in-Ok g c = record { done = rw c.in-Ok.ensures.kept at c.run_engine.ensures.done; cut = rw c.in-Ok.ensures.kept at c.run_engine.ensures.cut }

pub returns-in-Err : goal.returns-in-Err
returns-in-Err g c = record {
  done =
      talks_refused (λ v. (g.dyn-1.0.entry v).1) c.args.budget _ _ (g.W.Write.contents c.args.writer.now) (g.W.Write.contents c.print_drivers_error.new.writer) (start_by (list_begun c.args.profile.registry) c.args.profile.limits) _ _
      (NotListed c.in-Err.why) c.in-Err.ensures.given_back c.in-Err.ensures.why c.print_drivers_error.result c.print_drivers_error.ensures.whole c.print_drivers_error.ensures.status;
  cut =
      stops_refused (λ v. (g.dyn-1.0.entry v).1) c.args.budget _ _ (g.W.Write.contents c.args.writer.now) (g.W.Write.contents c.print_drivers_error.new.writer) (start_by (list_begun c.args.profile.registry) c.args.profile.limits) _ _
      (NotListed c.in-Err.why) c.in-Err.ensures.given_back c.in-Err.ensures.why c.print_drivers_error.result c.print_drivers_error.ensures.front;
}

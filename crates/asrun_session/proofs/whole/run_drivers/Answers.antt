use Rattle.std.proofs.Common.{subst, sym}
use Rattle.asrun_session.specs.Drivers.{AreListed, NotListed}
use Rattle.asrun_session.specs.Whole.{start_by, list_begun}
use Rattle.asrun_session.proofs.Taking.{ends_refused, stops_refused, read_refused}
use Rattle.asrun_session.proofs.whole.run_drivers.Goals as goal

pub returns-in-Ok-clause-done : goal.returns-in-Ok-clause-done
returns-in-Ok-clause-done g c = rw c.in-Ok.ensures.kept at c.run_engine.ensures.done

pub returns-in-Ok-clause-cut : goal.returns-in-Ok-clause-cut
returns-in-Ok-clause-cut g c = rw c.in-Ok.ensures.kept at c.run_engine.ensures.cut

pub returns-in-Err-clause-done : goal.returns-in-Err-clause-done
returns-in-Err-clause-done g c =
    ends_refused (λ v. (g.dyn-1.0.entry v).1) (start_by (list_begun c.args.profile.registry) c.args.profile.limits) _ _ (g.W.Write.contents c.args.writer.now)
    (g.W.Write.contents c.print_drivers_error.new.writer) (g.R.Read.remaining c.args.reader.now) c.args.budget (NotListed c.in-Err.why)
    c.print_drivers_error.result c.in-Err.ensures.given_back c.in-Err.ensures.why c.print_drivers_error.ensures.whole c.print_drivers_error.ensures.status

pub returns-in-Err-clause-cut : goal.returns-in-Err-clause-cut
returns-in-Err-clause-cut g c =
    stops_refused (λ v. (g.dyn-1.0.entry v).1) (start_by (list_begun c.args.profile.registry) c.args.profile.limits) _ _ (g.W.Write.contents c.args.writer.now)
    (g.W.Write.contents c.print_drivers_error.new.writer) (g.R.Read.remaining c.args.reader.now) c.args.budget (NotListed c.in-Err.why)
    c.print_drivers_error.result c.in-Err.ensures.given_back c.in-Err.ensures.why c.print_drivers_error.ensures.front

pub returns-in-Ok-clause-fault : goal.returns-in-Ok-clause-fault
returns-in-Ok-clause-fault g c = rw c.in-Ok.ensures.kept at c.run_engine.ensures.fault

pub returns-in-Ok-clause-read : goal.returns-in-Ok-clause-read
returns-in-Ok-clause-read g c = rw c.in-Ok.ensures.kept at c.run_engine.ensures.read

pub returns-in-Err-clause-read : goal.returns-in-Err-clause-read
returns-in-Err-clause-read g c =
    read_refused (λ v. (g.dyn-1.0.entry v).1) c.args.profile.registry.entries c.args.drivers.items _ (NotListed c.in-Err.why) c.print_drivers_error.result
    c.in-Err.ensures.why

pub run_engine-requires : goal.run_engine-requires
run_engine-requires g c = record {
  listed =
      subst (AreListed (λ v. (g.dyn-1.0.entry v).1)) (sym c.in-Ok.ensures.kept) (record { few = c.in-Ok.ensures.few; idle = c.in-Ok.ensures.fresh });
}

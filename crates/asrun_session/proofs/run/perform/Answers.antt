use Rattle.std.proofs.Common.{refl}
use Rattle.std.proofs.lemmas.Result.{err_from_is_err_and}
use Rattle.ang_engine.proofs.Limiting.{within_none}
use Rattle.asrun_session.specs.Deeds.{Set}
use Rattle.asrun_session.proofs.Doing.{follow_nothing}
use Rattle.asrun_session.proofs.run.perform.Goals as goal

pub returns-in_err-ok-in-Command-clause-cut : goal.returns-in_err-ok-in-Command-clause-cut
returns-in_err-ok-in-Command-clause-cut g c =
    let p = err_from_is_err_and c.from_residual.result c.from_residual.ensures.1 in
    rw (p.1, c.in-Command.is) c.in_err-ok-in-Command.ensures.cut

pub returns-in_ok-ok-in-Command-clause-done : goal.returns-in_ok-ok-in-Command-clause-done
returns-in_ok-ok-in-Command-clause-done g c = rw c.in-Command.is c.in_ok-ok-in-Command.ensures.done

pub returns-in_err-write_text-in-Budget-clause-cut : goal.returns-in_err-write_text-in-Budget-clause-cut
returns-in_err-write_text-in-Budget-clause-cut g c =
    let p = err_from_is_err_and c.from_residual-in_err-write_text-in-Budget.result c.from_residual-in_err-write_text-in-Budget.ensures.1 in
    rw (p.1, c.in-Budget.is) record {
      done = record { deed = Set c.in-Budget.ticks; action = refl; does = refl; follow = λ roles fit. follow_nothing _ roles _; front = c.in_err-write_text-in-Budget.ensures.front };
      list = refl;
      within = within_none (λ v. (g.dyn-1.0.entry v).1) c.args.engine.now.machine.store;
      builds = (refl, refl);
    }

pub returns-in_ok-write_text-in-Budget-clause-done : goal.returns-in_ok-write_text-in-Budget-clause-done
returns-in_ok-write_text-in-Budget-clause-done g c = rw c.in-Budget.is record {
  done = record {
    deed = Set c.in-Budget.ticks;
    action = refl;
    does = refl;
    follow = λ roles fit. follow_nothing _ roles _;
    printed = c.in_ok-write_text-in-Budget.ensures.whole;
    ended = refl;
  };
  list = refl;
  within = within_none (λ v. (g.dyn-1.0.entry v).1) c.args.engine.now.machine.store;
  builds = (refl, refl);
}

use Rattle.asrun_session.specs.Whole.{start_of}
use Rattle.asremote.proofs.Talking.{talks_over, talks_untaken, talks_stopped}
use Rattle.asremote.proofs.conversation.converse_with.Goals as goal

pub returns-in-Ok-true : goal.returns-in-Ok-true
returns-in-Ok-true g c = record {
  told =
      talks_over (λ v. (g.dyn-1.0.entry v).1) c.args.budget _ _ _ _ c.args.drivers.items c.run_drivers.result.1.items _
      (g.P.Read.remaining c.args.profile.now) start_of (g.W.Write.contents c.args.out.now) c.run_drivers.result.0
      (rw c.in-Ok-true.field-0-test at c.in-Ok-true.ensures.done) c.run_drivers.ensures.done c.run_drivers.ensures.cut;
}

pub returns-in-Ok-false : goal.returns-in-Ok-false
returns-in-Ok-false g c = record {
  told = talks_untaken (λ v. (g.dyn-1.0.entry v).1) c.args.budget _ _ _ _ c.args.drivers.items (g.P.Read.remaining c.args.profile.now) start_of (rw c.in-Ok-false.field-0-test at c.in-Ok-false.ensures.done);
}

pub returns-in-Err : goal.returns-in-Err
returns-in-Err g c = record {
  told =
      talks_stopped (λ v. (g.dyn-1.0.entry v).1) c.args.budget _ _ _ _ c.args.drivers.items
      (g.P.Read.remaining c.args.profile.now) start_of c.in-Err.stop c.in-Err.ensures.cut;
}

use Rattle.asrun_session.specs.Whole.{start_of}
use Rattle.asremote.proofs.Talking.{talks_unbegun}
use Rattle.asremote.proofs.conversation.converse.Goals as goal

pub returns-in_default : goal.returns-in_default
returns-in_default g c = record {
  told =
      talks_unbegun (λ v. (g.dyn-1.0.entry v).1) c.args.budget (g.S.Read.remaining c.args.input.now) (g.W.Write.contents c.args.out.now) c.args.drivers.items
      (g.P.Read.remaining c.args.profile.now) start_of;
}

pub returns : goal.returns
returns g c = record { told = rw c.outcome_of.ensures.exact c.converse_with-ended.ensures.told }

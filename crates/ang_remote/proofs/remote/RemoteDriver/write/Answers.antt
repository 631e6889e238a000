use Rattle.std.proofs.Common.{ap, ap₂}
use Rattle.ang_host.specs.State.{write}
use Rattle.ang_remote.proofs.Moving.{answered_by}
use Rattle.ang_remote.proofs.remote.RemoteDriver.write.Goals as goal

pub returns : goal.returns
returns g c =
    let s = c.args.self.now in
    let t = c.ask-said.new.self in
    record {
      law =
          answered_by (s.number, s.posted.items) (t.number, t.posted.items) s.keys c.ask.new.self t.keys (g.W.Write.contents s.writer) (g.W.Write.contents t.writer)
          (g.R.Read.remaining s.reader) (g.R.Read.remaining t.reader) (ap₂ (λ a b. (a, b)) c.ask-said.ensures.number (ap (λ v. v.items) c.ask-said.ensures.posted)) c.ask-said.ensures.keys c.if-not-ask.ensures.asked
          (write c.args.f c.args.object c.args.value) c.ask-said.result c.answer.result c.ask-said.ensures.exchanged c.answer.ensures.exact (λ x y r m. m);
    }

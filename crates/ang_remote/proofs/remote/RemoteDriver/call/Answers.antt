use Rattle.std.proofs.Common.{ap, ap₂, subst, sym, ◌∙◌}
use Rattle.ang_host.specs.State.{call}
use Rattle.ang_remote.specs.Asks.{line_text}
use Rattle.ang_remote.specs.declared.asks.AskKind.TheVariants.{Call}
use Rattle.ang_remote.specs.Wires.{IsExchanged}
use Rattle.ang_remote.proofs.Moving.{answered_by}
use Rattle.ang_remote.proofs.remote.RemoteDriver.call.Goals as goal

pub returns-then-args-le-FEW : goal.returns-then-args-le-FEW
returns-then-args-le-FEW g c =
    let s = c.args.self.now in
    let t = c.ask-said.new.self in
    let exchanged =
    subst
    (λ b. IsExchanged (line_text b s.number Call c.args.f c.args.object c.args.args.now) (g.W.Write.contents s.writer) (g.W.Write.contents t.writer)
    (g.R.Read.remaining s.reader) (g.R.Read.remaining t.reader) c.ask-said.result b)
    (sym c.if-posted.true ∙ c.posts-posted.ensures.exact) c.ask-said.ensures.exchanged in
    record {
      law =
          answered_by (s.number, s.posted.items) (t.number, t.posted.items) s.keys c.ask.new.self t.keys (g.W.Write.contents s.writer) (g.W.Write.contents t.writer)
          (g.R.Read.remaining s.reader) (g.R.Read.remaining t.reader) (ap₂ (λ a b. (a, b)) c.ask-said.ensures.number (ap (λ v. v.items) c.ask-said.ensures.posted)) c.ask-said.ensures.keys c.if-not-ask.ensures.asked
          (call c.args.f c.args.object c.args.args.now) c.ask-said.result c.answer.result exchanged c.answer.ensures.exact (λ x y r m. m);
    }

pub returns : goal.returns
returns g c =
    let s = c.args.self.now in
    let t = c.ask-said-2.new.self in
    let exchanged =
    subst
    (λ b. IsExchanged (line_text b s.number Call c.args.f c.args.object c.args.args.now) (g.W.Write.contents s.writer) (g.W.Write.contents t.writer)
    (g.R.Read.remaining s.reader) (g.R.Read.remaining t.reader) c.ask-said-2.result b)
    c.posts-posted.ensures.exact c.ask-said-2.ensures.exchanged in
    record {
      law =
          answered_by (s.number, s.posted.items) (t.number, t.posted.items) s.keys c.ask.new.self t.keys (g.W.Write.contents s.writer) (g.W.Write.contents t.writer)
          (g.R.Read.remaining s.reader) (g.R.Read.remaining t.reader) (ap₂ (λ a b. (a, b)) c.ask-said-2.ensures.number (ap (λ v. v.items) c.ask-said-2.ensures.posted)) c.ask-said-2.ensures.keys c.if-not-ask.ensures.asked
          (call c.args.f c.args.object c.args.args.now) c.ask-said-2.result c.answer-2.result exchanged c.answer-2.ensures.exact (λ x y r m. m);
    }

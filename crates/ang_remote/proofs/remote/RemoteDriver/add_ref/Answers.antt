use Rattle.ang_remote.proofs.Moving.{added}
use Rattle.ang_remote.proofs.remote.RemoteDriver.add_ref.Goals as goal

pub returns : goal.returns
returns g c =
    let s = c.args.self.now in
    record {
      law = added (s.number, s.posted.items) s.keys c.add_ref.new.self (g.W.Write.contents s.writer) (g.R.Read.remaining s.reader) c.args.key c.add_ref.result c.add_ref.ensures.added;
    }

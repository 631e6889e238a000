use Rattle.ang_remote.proofs.Moving.{released}
use Rattle.ang_remote.proofs.remote.RemoteDriver.release.Goals as goal

pub returns : goal.returns
returns g c =
    let s = c.args.self.now in
    record {
      law = released (s.number, s.posted.items) s.keys c.release.new.self (g.W.Write.contents s.writer) (g.R.Read.remaining s.reader) c.args.key c.release.result c.release.ensures.released;
    }

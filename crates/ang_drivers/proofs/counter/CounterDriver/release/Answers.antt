use Rattle.std.proofs.Common.{refl}
use Rattle.ang_drivers.specs.Counter.{count_code, CounterMoves}
use Rattle.ang_drivers.specs.ObjectsLedger.{ledger}
use Rattle.ang_drivers.proofs.Moving.{released, sound_of}
use Rattle.ang_drivers.proofs.counter.CounterDriver.release.Goals as goal

pub returns : goal.returns
returns c = record {
  law =
      released count_code CounterMoves (ledger c.args.self.now.counts) (ledger c.release.new.self) c.args.key c.release.result c.release.ensures.released (refl, refl)
      (sound_of count_code c.release.new.self);
}

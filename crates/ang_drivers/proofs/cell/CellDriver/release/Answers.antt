use Rattle.std.proofs.Common.{refl}
use Rattle.ang_drivers.specs.Cell.{value_code, CellMoves}
use Rattle.ang_drivers.specs.ObjectsLedger.{ledger}
use Rattle.ang_drivers.proofs.Moving.{released, sound_of}
use Rattle.ang_drivers.proofs.cell.CellDriver.release.Goals as goal

pub returns : goal.returns
returns c = record {
  law =
      released value_code CellMoves (ledger c.args.self.now.cells) (ledger c.release.new.self) c.args.key c.release.result c.release.ensures.released (refl, refl)
      (sound_of value_code c.release.new.self);
}

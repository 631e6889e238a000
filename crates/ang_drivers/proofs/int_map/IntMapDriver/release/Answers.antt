use Rattle.ang_drivers.specs.IntMap.{map_code}
use Rattle.ang_drivers.specs.ObjectsLedger.{ledger}
use Rattle.ang_drivers.proofs.Moving.{sound_of}
use Rattle.ang_drivers.proofs.MapLaws.{releases_map}
use Rattle.ang_drivers.proofs.int_map.IntMapDriver.release.Goals as goal

pub returns : goal.returns
returns c = record {
  law =
      releases_map c.args.self.now.bound (ledger c.args.self.now.maps) (ledger c.release.new.self) c.args.key c.release.result c.release.ensures.released
      (sound_of map_code c.release.new.self);
}

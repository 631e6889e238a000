use Rattle.ang_drivers.specs.IntMap.{map_code}
use Rattle.ang_drivers.specs.ObjectsLedger.{ledger}
use Rattle.ang_drivers.proofs.Moving.{sound_of}
use Rattle.ang_drivers.proofs.MapLaws.{writes_nothing}
use Rattle.ang_drivers.proofs.int_map.IntMapDriver.write.Goals as goal

pub returns : goal.returns
returns c = record {
  law =
      writes_nothing c.args.self.now.bound (ledger c.args.self.now.maps) (ledger c.ask.new.self) c.if-not-ask.ensures.asked c.args._f c.args._object c.args._value
      (sound_of map_code c.ask.new.self);
}

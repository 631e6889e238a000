use Rattle.ang_drivers.specs.IntList.{list_code}
use Rattle.ang_drivers.specs.ObjectsLedger.{ledger}
use Rattle.ang_drivers.proofs.Moving.{sound_of}
use Rattle.ang_drivers.proofs.ListLaws.{releases_list}
use Rattle.ang_drivers.proofs.int_list.IntListDriver.release.Goals as goal

pub returns : goal.returns
returns c = record {
  law =
      releases_list c.args.self.now.bound (ledger c.args.self.now.lists) (ledger c.release.new.self) c.args.key c.release.result c.release.ensures.released
      (sound_of list_code c.release.new.self);
}

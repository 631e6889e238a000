use Rattle.ang_drivers.specs.IntList.{list_code}
use Rattle.ang_drivers.specs.ObjectsLedger.{ledger}
use Rattle.ang_drivers.proofs.Moving.{sound_of}
use Rattle.ang_drivers.proofs.ListLaws.{reads_nothing}
use Rattle.ang_drivers.proofs.int_list.IntListDriver.read.Goals as goal

pub returns : goal.returns
returns c = record {
  law =
      reads_nothing c.args.self.now.bound (ledger c.args.self.now.lists) (ledger c.ask.new.self) c.if-not-ask.ensures.asked c.args._f c.args._object
      (sound_of list_code c.ask.new.self);
}

use Rattle.ang_drivers.specs.ObjectsLedger.{ledger}
use Rattle.host_template.proofs.DoorsLaws.{releases}
use Rattle.host_template.proofs.doors.DoorsDriver.release.Goals as goal

pub returns : goal.returns
returns c = record { law = releases (ledger c.args.self.now.doors) c.release.new.self c.args.key c.release.result c.release.ensures.released }

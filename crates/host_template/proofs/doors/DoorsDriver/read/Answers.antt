use Rattle.ang_host.specs.State.{read}
use Rattle.ang_drivers.specs.ObjectsLedger.{ledger}
use Rattle.host_template.proofs.DoorsLaws.{answers}
use Rattle.host_template.proofs.doors.DoorsDriver.read.Goals as goal

pub returns : goal.returns
returns c = record {
  law = answers (ledger c.args.self.now.doors) (ledger c.ask.new.self) c.if-not-ask.ensures.asked c.answer_to_read.new.self.doors
      (read c.args.f c.args.object) c.answer_to_read.result c.answer_to_read.ensures.kept c.answer_to_read.ensures.plain;
}

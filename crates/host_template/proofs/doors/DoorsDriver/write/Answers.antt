use Rattle.ang_host.specs.State.{write}
use Rattle.ang_drivers.specs.ObjectsLedger.{ledger}
use Rattle.host_template.proofs.DoorsLaws.{answers}
use Rattle.host_template.proofs.doors.DoorsDriver.write.Goals as goal

pub returns : goal.returns
returns c = record {
  law = answers (ledger c.args.self.now.doors) (ledger c.ask.new.self) c.if-not-ask.ensures.asked c.answer_to_write.new.self.doors
      (write c.args.f c.args.object c.args.value) c.answer_to_write.result c.answer_to_write.ensures.kept c.answer_to_write.ensures.plain;
}

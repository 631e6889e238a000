use Rattle.ang_host.specs.State.{call}
use Rattle.ang_drivers.specs.ObjectsLedger.{ledger}
use Rattle.ang_drivers.proofs.Moving.{held_after}
use Rattle.host_template.specs.Answers.{untold}
use Rattle.host_template.proofs.DoorsLaws.{answers}
use Rattle.host_template.proofs.doors.DoorsDriver.call.Goals as goal

pub answer_to_method-requires : goal.answer_to_method-requires
answer_to_method-requires c = record {
  held = held_after untold (ledger c.args.self.now.doors) (ledger c.ask.new.self) c.args.object c.in-Some.key c.if-not-ask.ensures.asked c.in-Some.is c.requires.object_live;
}

pub returns-in-Some : goal.returns-in-Some
returns-in-Some c = record {
  law = answers (ledger c.args.self.now.doors) (ledger c.ask.new.self) c.if-not-ask.ensures.asked c.answer_to_method.new.self.doors
      (call c.args.f c.args.object c.args.args.now) c.answer_to_method.result c.answer_to_method.ensures.kept c.answer_to_method.ensures.plain;
}

pub returns-in-None : goal.returns-in-None
returns-in-None c = record {
  law = answers (ledger c.args.self.now.doors) (ledger c.ask.new.self) c.if-not-ask.ensures.asked c.answer_to_function.new.self.doors
      (call c.args.f c.args.object c.args.args.now) c.answer_to_function.result c.answer_to_function.ensures.kept c.answer_to_function.ensures.plain;
}

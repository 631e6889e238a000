use Rattle.ang_drivers.specs.IntList.{list_code}
use Rattle.ang_drivers.specs.Tables.{state_of}
use Rattle.ang_drivers.specs.ObjectsLedger.{ledger}
use Rattle.ang_drivers.proofs.Moving.{held_after, sound_of}
use Rattle.ang_drivers.proofs.Bounding.{live_inside}
use Rattle.ang_drivers.proofs.ListLaws.{list_answers, calls_nothing}
use Rattle.ang_drivers.proofs.int_list.IntListDriver.call.Goals as goal

pub answer-requires : goal.answer-requires
answer-requires c =
    let s = ledger c.args.self.now.lists in
    record {
      held = held_after list_code s (ledger c.ask.new.self) c.args.object c.in-Some.key c.if-not-ask.ensures.asked c.in-Some.is
          (live_inside c.args.self.now.bound (state_of list_code s) c.args.object c.requires.object_live);
    }

pub returns-in-Some : goal.returns-in-Some
returns-in-Some c = record {
  law =
      list_answers c.args.self.now.bound (ledger c.args.self.now.lists) (ledger c.ask.new.self) c.if-not-ask.ensures.asked (ledger c.answer.new.self.lists)
      c.answer.new.self.bound c.args.f c.in-Some.key c.args.object c.args.args.now c.read.result c.answer.result c.answer.ensures.bound c.in-Some.is
      c.read.ensures.exact c.answer.ensures.changes
      (sound_of list_code c.answer.new.self.lists);
}

pub returns-in-None : goal.returns-in-None
returns-in-None c = record {
  law =
      calls_nothing c.args.self.now.bound (ledger c.args.self.now.lists) (ledger c.ask.new.self) c.if-not-ask.ensures.asked c.args.f c.args.object c.args.args.now
      c.in-None.is (sound_of list_code c.ask.new.self);
}

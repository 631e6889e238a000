use Rattle.ang_host.specs.State.{make}
use Rattle.ang_drivers.specs.ObjectsLedger.{ledger}
use Rattle.host_template.proofs.DoorsLaws.{makes, makes_none}
use Rattle.host_template.proofs.doors.DoorsDriver.make.Goals as goal

pub returns-then-f-eq0 : goal.returns-then-f-eq0
returns-then-f-eq0 c = record {
  law = makes (ledger c.args.self.now.doors) (ledger c.ask.new.self) c.if-not-ask.ensures.asked c.make.new.self (make c.args.f c.args._args.now) _ _ c.make.ensures.made;
}

pub returns-else-f-eq0 : goal.returns-else-f-eq0
returns-else-f-eq0 c = record { law = makes_none (ledger c.args.self.now.doors) c.ask.new.self c.if-not-ask.ensures.asked (make c.args.f c.args._args.now) _ }

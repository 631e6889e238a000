use Rattle.std.proofs.Common.{inr, refl}
use Rattle.ang_host.specs.State.{read}
use Rattle.example_driver.proofs.TicketsLaws.{tells_given, unknown, full}
use Rattle.example_driver.proofs.TicketsDriver.read.Goals as goal

pub returns-then-self-eq-LIMIT : goal.returns-then-self-eq-LIMIT
returns-then-self-eq-LIMIT c = record { law = full c.args.self.now.given c.args.self.now.asked (read c.args.f c.args._object) c.if-self-eq-LIMIT.true }

pub returns-then-f-eq0 : goal.returns-then-f-eq0
returns-then-f-eq0 c = record { law = tells_given c.args.self.now.given c.args.self.now.asked c.args.f c.args._object c.if-f-eq0.true }

pub returns-else-f-eq0 : goal.returns-else-f-eq0
returns-else-f-eq0 c = record {
  law = unknown c.args.self.now.given c.args.self.now.asked (read c.args.f c.args._object) (inr (c.if-f-eq0.false, (refl, refl)));
}

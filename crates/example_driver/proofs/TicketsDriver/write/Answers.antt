use Rattle.std.proofs.Common.{refl}
use Rattle.ang_host.specs.State.{write}
use Rattle.example_driver.proofs.TicketsLaws.{unknown, full}
use Rattle.example_driver.proofs.TicketsDriver.write.Goals as goal

pub returns-then-self-eq-LIMIT : goal.returns-then-self-eq-LIMIT
returns-then-self-eq-LIMIT c = record { law = full c.args.self.now.given c.args.self.now.asked (write c.args._f c.args._object c.args._value) c.if-self-eq-LIMIT.true }

pub returns : goal.returns
returns c = record { law = unknown c.args.self.now.given c.args.self.now.asked (write c.args._f c.args._object c.args._value) (refl, refl) }

use Rattle.example_driver.proofs.TicketsLaws.{makes_none, makes_full}
use Rattle.example_driver.proofs.TicketsDriver.make.Goals as goal

pub returns-then-self-eq-LIMIT : goal.returns-then-self-eq-LIMIT
returns-then-self-eq-LIMIT c = record { law = makes_full c.args.self.now.given c.args.self.now.asked c.args._f c.args._args.now c.if-self-eq-LIMIT.true }

pub returns : goal.returns
returns c = record { law = makes_none c.args.self.now.given c.args.self.now.asked c.args._f c.args._args.now }

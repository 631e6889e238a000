use Rattle.example_first_driver.proofs.TicketsLaws.{idle_test}
use Rattle.example_first_driver.proofs.TicketsDriver.idle.Goals as goal

pub returns : goal.returns
returns c = record { law = idle_test c.args.self.now.asked }

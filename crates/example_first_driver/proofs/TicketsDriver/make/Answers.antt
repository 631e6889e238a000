use Rattle.std.proofs.Common.{refl}
use Rattle.ang_host.specs.State.{make}
use Rattle.example_first_driver.proofs.TicketsLaws.{makes_none, makes_full}
use Rattle.example_first_driver.proofs.TicketsDriver.make.Goals as goal

pub returns-then-not-count : goal.returns-then-not-count
returns-then-not-count c = record { law = makes_full _ _ (make c.args._f c.args._args.now) (c.if-not-count.ensures.asked refl) (c.if-not-count.ensures.full refl) }

pub returns : goal.returns
returns c = record { law = makes_none _ _ _ (make c.args._f c.args._args.now) (c.if-not-count.ensures.counted refl) }

use Rattle.std.proofs.Common.{refl, ◌∙◌}
use Rattle.ang_host.specs.State.{write}
use Rattle.example_first_driver.proofs.TicketsLaws.{answered, full}
use Rattle.example_first_driver.proofs.TicketsDriver.write.Goals as goal

pub returns-then-not-count : goal.returns-then-not-count
returns-then-not-count c = record { law = full _ _ (write c.args.f c.args._object c.args.value) (c.if-not-count.ensures.asked refl) (c.if-not-count.ensures.full refl) }

pub returns : goal.returns
returns c = record { law = answered _ _ (write c.args.f c.args._object c.args.value) _ (c.answer_to_write.ensures.asked ∙ c.if-not-count.ensures.counted refl) c.answer_to_write.ensures.plain }

use Rattle.example_first_driver.proofs.TicketsLaws.{not_live}
use Rattle.example_first_driver.proofs.TicketsDriver.add_ref.Goals as goal

pub unreachable-requires : goal.unreachable-requires
unreachable-requires c = not_live c.args.self.now.asked c.args._key c.requires.key_live

use Rattle.ang_drivers.proofs.ConsoleLaws.{not_live}
use Rattle.ang_drivers.proofs.console.ConsoleDriver.release.Goals as goal

pub unreachable-requires : goal.unreachable-requires
unreachable-requires c = not_live c.args.self.now.register c.args.self.now.notes.items c.args.self.now.asked c.args._key c.requires.key_live

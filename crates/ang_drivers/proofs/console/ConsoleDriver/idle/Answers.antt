use Rattle.ang_drivers.proofs.ConsoleLaws.{idle_test}
use Rattle.ang_drivers.proofs.console.ConsoleDriver.idle.Goals as goal

pub returns : goal.returns
returns c = record {
  law =
      idle_test c.args.self.now.register c.args.self.now.notes.items c.args.self.now.asked;
}

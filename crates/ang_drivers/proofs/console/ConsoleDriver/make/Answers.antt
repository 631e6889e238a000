use Rattle.ang_drivers.proofs.ConsoleLaws.{console_makes, console_makes_full}
use Rattle.ang_drivers.proofs.console.ConsoleDriver.make.Goals as goal

pub returns-then-self-eq-LIMIT : goal.returns-then-self-eq-LIMIT
returns-then-self-eq-LIMIT c = record {
  law =
      console_makes_full c.args.self.now.register c.args.self.now.notes.items c.args.self.now.asked c.args._f c.args._args.now c.if-self-eq-LIMIT.true;
}

pub returns : goal.returns
returns c = record {
  law =
      console_makes c.args.self.now.register c.args.self.now.notes.items c.args.self.now.asked c.args._f c.args._args.now;
}

use Rattle.ang_engine.proofs.Unloading.{unloaded_again}
use Rattle.ang_engine.proofs.building.load.Goals as goal

pub returns-clause-unloaded : goal.returns-clause-unloaded
returns-clause-unloaded c =
    unloaded_again c.args.code.now c.load.new.self c.args.home c.args.loaded c.requires.empty c.requires.free c.in_ok-load.ensures.placed

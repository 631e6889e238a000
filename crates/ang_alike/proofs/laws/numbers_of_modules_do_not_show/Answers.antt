use Rattle.ang_alike.proofs.MovedRuns.{calls_moved, initializers_moved}
use Rattle.ang_alike.proofs.laws.numbers_of_modules_do_not_show.Goals as goal

pub returns : goal.returns
returns c = record { calls = calls_moved; initializers = initializers_moved }

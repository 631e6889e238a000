use Rattle.ang_gen.proofs.Composed.{none_lost}
use Rattle.ang_gen.proofs.laws.no_run_is_lost.Goals as goal

pub returns : goal.returns
returns c = record { never = λ z codes code runs links. none_lost z codes code runs links }

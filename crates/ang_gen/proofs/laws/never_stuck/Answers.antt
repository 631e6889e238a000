use Rattle.ang_gen.proofs.Composed.{never_stuck}
use Rattle.ang_gen.proofs.laws.never_stuck.Goals as goal

pub returns : goal.returns
returns c = record { never = λ z sources code b. never_stuck z sources code b }

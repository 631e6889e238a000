use Rattle.ang_code_laws.proofs.laws.numbers_do_not_show.Goals as goal
use Rattle.ang_code_laws.proofs.AlikeSteps.{all_steps_alike}

pub returns : goal.returns
returns c = record { steps = all_steps_alike }

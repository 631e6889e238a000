use Rattle.ang_alike.proofs.laws.answers_decide.Goals as goal
use Rattle.ang_alike.proofs.Sessions.{answers_decide}

pub returns : goal.returns
returns c = record { same = answers_decide }

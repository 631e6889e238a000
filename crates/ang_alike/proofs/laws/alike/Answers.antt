use Rattle.ang_alike.proofs.laws.alike.Goals as goal
use Rattle.ang_alike.proofs.Sessions.{hidden_does_not_matter}

pub returns : goal.returns
returns c = record { alike = hidden_does_not_matter }

use Rattle.ang_alike.proofs.laws.sources_alike.Goals as goal
use Rattle.ang_alike.proofs.Sources.{sources_alike}

pub returns : goal.returns
returns c = record { alike = sources_alike }

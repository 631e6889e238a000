use Rattle.ang_remote.proofs.Cores.{alike}
use Rattle.ang_remote.proofs.laws.cores_tell.Goals as goal

pub returns : goal.returns
returns c = record { alike = alike }

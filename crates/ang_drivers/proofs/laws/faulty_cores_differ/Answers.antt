use Rattle.ang_drivers.proofs.Cores.{faulty_differ}
use Rattle.ang_drivers.proofs.laws.faulty_cores_differ.Goals as goal

pub returns : goal.returns
returns c = record { apart = faulty_differ }

use Rattle.ang_drivers.proofs.Cores.{list_cores}
use Rattle.ang_drivers.proofs.laws.list_cores_differ.Goals as goal

pub returns : goal.returns
returns c = record { apart = list_cores }

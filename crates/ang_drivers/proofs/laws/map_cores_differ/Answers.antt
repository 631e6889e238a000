use Rattle.ang_drivers.proofs.Cores.{map_cores}
use Rattle.ang_drivers.proofs.laws.map_cores_differ.Goals as goal

pub returns : goal.returns
returns c = record { apart = map_cores }

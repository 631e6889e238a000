use Rattle.ang_drivers.specs.Cell.{value_code}
use Rattle.ang_drivers.proofs.Cores.{cores_differ, value-readable}
use Rattle.ang_drivers.proofs.laws.cell_cores_differ.Goals as goal

pub returns : goal.returns
returns c = record { apart = cores_differ value_code value-readable }

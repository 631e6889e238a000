use Rattle.ang_drivers.specs.Counter.{count_code}
use Rattle.ang_drivers.proofs.Cores.{cores_differ, count-readable}
use Rattle.ang_drivers.proofs.laws.counter_cores_differ.Goals as goal

pub returns : goal.returns
returns c = record { apart = cores_differ count_code count-readable }

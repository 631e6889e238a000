use Rattle.ang_drivers.proofs.Rising.{keys_rise}
use Rattle.ang_drivers.proofs.laws.keys_rise.Goals as goal

pub returns : goal.returns
returns c = record { rise = keys_rise }

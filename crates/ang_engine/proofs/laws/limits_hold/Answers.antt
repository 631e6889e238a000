use Rattle.ang_engine.proofs.Limiting as limiting
use Rattle.ang_engine.proofs.laws.limits_hold.Goals as goal

pub returns : goal.returns
returns c = record { bounded = limiting.limits_hold }

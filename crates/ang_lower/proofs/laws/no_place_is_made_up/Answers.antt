use Rattle.ang_lower.proofs.HandedOn.{handed_on}
use Rattle.ang_lower.proofs.laws.no_place_is_made_up.Goals as goal

pub returns : goal.returns
returns c = record { among = handed_on }

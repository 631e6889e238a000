use Rattle.ang_types.proofs.PlaceLaws.{same_at_its_place}
use Rattle.ang_types.proofs.laws.best_anywhere.Goals as goal

pub returns : goal.returns
returns c = record { same = same_at_its_place }

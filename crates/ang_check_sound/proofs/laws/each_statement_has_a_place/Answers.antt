use Rattle.ang_check_sound.proofs.Counted.{places_counted}
use Rattle.ang_check_sound.proofs.laws.each_statement_has_a_place.Goals as goal

pub returns : goal.returns
returns c = record { counted = places_counted }

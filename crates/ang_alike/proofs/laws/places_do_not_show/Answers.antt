use Rattle.ang_alike.proofs.MovedTurns.{places_do_not_show, is_heard_so}
use Rattle.ang_alike.proofs.laws.places_do_not_show.Goals as goal

pub returns : goal.returns
returns c = record { same = places_do_not_show; heard = is_heard_so }

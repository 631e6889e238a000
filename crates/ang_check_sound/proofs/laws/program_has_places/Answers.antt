use Rattle.ang_check_sound.proofs.PlacesProgram.{program_placed}
use Rattle.ang_check_sound.proofs.laws.program_has_places.Goals as goal

pub returns : goal.returns
returns c = record { placed = program_placed }

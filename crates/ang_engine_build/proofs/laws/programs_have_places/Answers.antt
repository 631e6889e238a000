use Rattle.ang_engine_build.proofs.Placed.{program-placed, program-counted}
use Rattle.ang_engine_build.proofs.laws.programs_have_places.Goals as goal

pub returns : goal.returns
returns c = record { placed = program-placed; counted = program-counted }

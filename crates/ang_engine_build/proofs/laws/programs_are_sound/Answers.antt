use Rattle.ang_engine_build.proofs.Programs.{program-sound}
use Rattle.ang_engine_build.proofs.laws.programs_are_sound.Goals as goal

pub returns : goal.returns
returns c = record { sound = program-sound }

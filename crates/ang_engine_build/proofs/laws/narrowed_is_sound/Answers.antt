use Rattle.ang_engine_build.proofs.Narrowing.{narrowed_sound}
use Rattle.ang_engine_build.proofs.laws.narrowed_is_sound.Goals as goal

pub returns : goal.returns
returns c = record { sound = narrowed_sound }

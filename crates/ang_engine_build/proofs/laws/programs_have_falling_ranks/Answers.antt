use Rattle.ang_engine_build.proofs.Programs.{program-ranks}
use Rattle.ang_engine_build.proofs.laws.programs_have_falling_ranks.Goals as goal

pub returns : goal.returns
returns c = record { falls = program-ranks }

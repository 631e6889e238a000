use Rattle.ang_engine_build.proofs.Programs.{program-named}
use Rattle.ang_engine_build.proofs.laws.programs_have_their_names.Goals as goal

pub returns : goal.returns
returns c = record { named = program-named }

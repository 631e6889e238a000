use Rattle.ang_engine_build.proofs.Programs.{program-families}
use Rattle.ang_engine_build.proofs.laws.programs_have_few_families.Goals as goal

pub returns : goal.returns
returns c = record { few = program-families }

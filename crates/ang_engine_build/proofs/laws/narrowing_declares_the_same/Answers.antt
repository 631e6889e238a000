use Rattle.ang_engine_build.proofs.Declared.{program-declares}
use Rattle.ang_engine_build.proofs.laws.narrowing_declares_the_same.Goals as goal

pub returns : goal.returns
returns c = record { same = program-declares }

use Rattle.ang_check_laws.proofs.Whole.{program_typed}
use Rattle.ang_check_laws.proofs.programs.program_is_typed.Goals as goal

pub returns : goal.returns
returns c = record { each = program_typed }

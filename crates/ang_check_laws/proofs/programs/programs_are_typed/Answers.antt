use Rattle.ang_check_laws.proofs.Whole.{programs_typed}
use Rattle.ang_check_laws.proofs.programs.programs_are_typed.Goals as goal

pub returns : goal.returns
returns c = record { each = programs_typed }

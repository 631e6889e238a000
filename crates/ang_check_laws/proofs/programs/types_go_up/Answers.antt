use Rattle.ang_check_laws.proofs.GoesUp.{types_go_up}
use Rattle.ang_check_laws.proofs.programs.types_go_up.Goals as goal

pub returns : goal.returns
returns c = record { each = types_go_up }

use Rattle.ang_check_sound.proofs.Program.{has_names}
use Rattle.ang_check_sound.proofs.laws.program_has_the_names.Goals as goal

pub returns : goal.returns
returns c = record { declared = has_names }

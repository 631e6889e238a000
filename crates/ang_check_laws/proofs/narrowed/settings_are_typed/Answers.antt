use Rattle.ang_check_laws.proofs.SettingsTyped.{settings_typed}
use Rattle.ang_check_laws.proofs.Whole.{program_typed}
use Rattle.ang_check_laws.proofs.narrowed.settings_are_typed.Goals as goal

pub returns : goal.returns
returns c = record { each = settings_typed program_typed }

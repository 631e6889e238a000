use Rattle.ang_lower.proofs.Modules.{sound_in}
use Rattle.ang_lower.proofs.laws.sound_in_module.Goals as goal

pub returns : goal.returns
returns c = record { sound = λ z m M bodies codes are view. sound_in z m M bodies codes are view }

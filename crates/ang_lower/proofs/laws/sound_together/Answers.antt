use Rattle.ang_lower.proofs.Modules.{sound_together}
use Rattle.ang_lower.proofs.laws.sound_together.Goals as goal

pub returns : goal.returns
returns c = record { sound = λ z bodies each links. sound_together z bodies each links }

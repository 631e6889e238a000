use Rattle.ang_check_sound.proofs.Views.{entitled}
use Rattle.ang_check_sound.proofs.laws.each_entity_is_entitled.Goals as goal

pub returns : goal.returns
returns c = record { entitled = entitled }

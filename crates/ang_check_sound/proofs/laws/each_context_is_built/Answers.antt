use Rattle.ang_check_sound.proofs.Built.{context_built}
use Rattle.ang_check_sound.proofs.laws.each_context_is_built.Goals as goal

pub returns : goal.returns
returns c = record { built = context_built }

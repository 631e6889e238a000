use Rattle.ang_check_sound.proofs.SeenUses.{uses_seen}
use Rattle.ang_check_sound.proofs.laws.each_use_is_seen.Goals as goal

pub returns : goal.returns
returns c = record { seen = uses_seen }

use Rattle.asremote.proofs.Turning.{unflushed}
use Rattle.asremote.proofs.turns.print_done.Goals as goal

pub returns-in-Err-clause-front : goal.returns-in-Err-clause-front
returns-in-Err-clause-front g c = unflushed _ _ _ _ c.in_ok-write_text.ensures.whole c.flush.ensures.bytes

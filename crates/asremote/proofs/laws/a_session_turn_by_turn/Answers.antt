use Rattle.asremote.proofs.AsSession.{says_so}
use Rattle.asremote.proofs.laws.a_session_turn_by_turn.Goals as goal

pub returns : goal.returns
returns c = record { same = λ budget lines right. says_so 1 budget 0 lines right }

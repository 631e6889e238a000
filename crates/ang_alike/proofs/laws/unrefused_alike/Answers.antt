use Rattle.ang_alike.proofs.laws.unrefused_alike.Goals as goal
use Rattle.ang_alike.proofs.Unrefused.{unrefused_reply_alike, unrefused_reply_same}

pub returns : goal.returns
returns c = record { alike = unrefused_reply_alike; same = unrefused_reply_same }

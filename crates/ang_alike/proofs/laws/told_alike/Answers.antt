use Rattle.ang_alike.proofs.laws.told_alike.Goals as goal
use Rattle.ang_alike.proofs.Sessions.{told_alike_reply_alike, told_alike_reply_same}

pub returns : goal.returns
returns c = record { alike = told_alike_reply_alike; same = told_alike_reply_same }

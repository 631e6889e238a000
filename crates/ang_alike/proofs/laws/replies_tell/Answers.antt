use Rattle.ang_alike.proofs.laws.replies_tell.Goals as goal
use Rattle.ang_alike.proofs.Reading.{replies_tell}

pub returns : goal.returns
returns c = record { alike = replies_tell }

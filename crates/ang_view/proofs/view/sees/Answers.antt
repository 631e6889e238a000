use Rattle.std.proofs.Common.{rules}
use Rattle.ang_view.specs.Registration.{is_seen}
use Rattle.ang_view.proofs.view.sees.Goals as goal

pub returns-then-meets : goal.returns-then-meets
unfolding is_seen
returns-then-meets c = search rules

pub returns-else-meets : goal.returns-else-meets
unfolding is_seen
returns-else-meets c = search rules

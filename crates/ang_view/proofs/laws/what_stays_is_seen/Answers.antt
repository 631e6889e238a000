use Rattle.ang_view.proofs.Keeping.{seen_only, seen_stays}
use Rattle.ang_view.proofs.laws.what_stays_is_seen.Goals as goal

pub returns-clause-stays : goal.returns-clause-stays
returns-clause-stays c = seen_stays

pub returns-clause-same : goal.returns-clause-same
returns-clause-same c = seen_only

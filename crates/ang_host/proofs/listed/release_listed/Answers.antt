use Rattle.ang_host.proofs.Steps.{AllFollow-released}
use Rattle.ang_host.proofs.listed.release_listed.Goals as goal

pub returns-then-ended-clause-follow : goal.returns-then-ended-clause-follow
returns-then-ended-clause-follow g c roles = AllFollow-released _ _ _ roles _ _ _ _ _ c.release-ended.ensures.moved

pub returns-else-ended-clause-follow : goal.returns-else-ended-clause-follow
returns-else-ended-clause-follow g c roles = AllFollow-released _ _ _ roles _ _ _ _ _ c.release-ended.ensures.moved

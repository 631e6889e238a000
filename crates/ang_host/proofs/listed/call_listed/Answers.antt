use Rattle.std.proofs.Common.{sym, ap}
use Rattle.ang_host.specs.Events.{ask_of}
use Rattle.ang_host.proofs.Steps.{AllFollow-answered}
use Rattle.ang_host.proofs.listed.call_listed.Goals as goal

pub returns-clause-follow : goal.returns-clause-follow
returns-clause-follow g c roles role =
    AllFollow-answered _ _ _ roles _ _ _ _ _ _ _ _ _
    (ap (λ r. ask_of r c.args.object c.args.args.now) (sym role)) c.call-answer.ensures.moved

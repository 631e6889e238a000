use Rattle.std.proofs.Common.{sym, ap, None}
use Rattle.ang_host.specs.Events.{ask_of}
use Rattle.ang_host.proofs.Steps.{AllFollow-made}
use Rattle.ang_host.proofs.listed.make_listed.Goals as goal

pub returns-clause-follow : goal.returns-clause-follow
returns-clause-follow g c roles role =
    AllFollow-made _ _ _ roles _ _ _ _ _ _ _ _ _
    (ap (λ r. ask_of r None c.args.args.now) (sym role)) c.make-answer.ensures.moved

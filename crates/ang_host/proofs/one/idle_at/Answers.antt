use Rattle.std.proofs.Common.{subst}
use Rattle.ang_host.specs.Laws.{IsIdleTest}
use Rattle.ang_host.proofs.one.idle_at.Goals as goal

pub returns : goal.returns
returns g c = record {
  idle = subst (λ p. IsIdleTest ((goal.Driver-dyn g p).meaning.state p.1) c.idle_in.result) c.as_ref.ensures.1 c.idle_in.ensures.idle;
}

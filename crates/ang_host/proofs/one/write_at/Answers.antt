use Rattle.std.proofs.Common.{subst, sym}
use Rattle.ang_host.specs.State.{write}
use Rattle.ang_host.specs.Laws.{IsLiveOption, IsLiveValue, Answered}
use Rattle.ang_host.proofs.one.write_at.Goals as goal

pub write_in-requires-clause-object_live : goal.write_in-requires-clause-object_live
write_in-requires-clause-object_live g c =
    subst (λ p. IsLiveOption ((goal.Driver-dyn g p).meaning.state p.1) c.args.object) (sym c.as_mut.ensures.value.1) c.requires.object_live

pub write_in-requires-clause-value_live : goal.write_in-requires-clause-value_live
write_in-requires-clause-value_live g c =
    subst (λ p. IsLiveValue ((goal.Driver-dyn g p).meaning.state p.1) c.args.value) (sym c.as_mut.ensures.value.1) c.requires.value_live

pub returns-clause-law : goal.returns-clause-law
returns-clause-law g c =
    subst (λ p. Answered (goal.Driver-dyn g p).meaning.fits ((goal.Driver-dyn g p).meaning.state p.1) (write c.args.f c.args.object c.args.value) c.write_in.result ((goal.Driver-dyn g c.as_mut.result.now).meaning.state c.write_in.new.d))
    c.as_mut.ensures.value.1 c.write_in.ensures.law

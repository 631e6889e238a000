use Rattle.std.proofs.Common.{subst, sym}
use Rattle.ang_host.specs.State.{call}
use Rattle.ang_host.specs.Laws.{IsLiveOption, AreLive, Answered}
use Rattle.ang_host.proofs.one.call_at.Goals as goal

pub call_in-requires-clause-object_live : goal.call_in-requires-clause-object_live
call_in-requires-clause-object_live g c =
    subst (λ p. IsLiveOption ((goal.Driver-dyn g p).meaning.state p.1) c.args.object) (sym c.as_mut.ensures.value.1) c.requires.object_live

pub call_in-requires-clause-args_live : goal.call_in-requires-clause-args_live
call_in-requires-clause-args_live g c =
    subst (λ p. AreLive ((goal.Driver-dyn g p).meaning.state p.1) c.args.args.now) (sym c.as_mut.ensures.value.1) c.requires.args_live

pub returns-clause-law : goal.returns-clause-law
returns-clause-law g c =
    subst (λ p. Answered (goal.Driver-dyn g p).meaning.fits ((goal.Driver-dyn g p).meaning.state p.1) (call c.args.f c.args.object c.args.args.now) c.call_in.result ((goal.Driver-dyn g c.as_mut.result.now).meaning.state c.call_in.new.d))
    c.as_mut.ensures.value.1 c.call_in.ensures.law

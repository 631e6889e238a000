use Rattle.std.proofs.Common.{subst, sym}
use Rattle.ang_host.specs.State.{read}
use Rattle.ang_host.specs.Laws.{IsLiveOption, Answered}
use Rattle.ang_host.proofs.one.read_at.Goals as goal

pub read_in-requires : goal.read_in-requires
read_in-requires g c = record {
  object_live = subst (λ p. IsLiveOption ((goal.Driver-dyn g p).meaning.state p.1) c.args.object) (sym c.as_mut.ensures.value.1) c.requires.object_live;
}

pub returns-clause-law : goal.returns-clause-law
returns-clause-law g c =
    subst (λ p. Answered (goal.Driver-dyn g p).meaning.fits ((goal.Driver-dyn g p).meaning.state p.1) (read c.args.f c.args.object) c.read_in.result ((goal.Driver-dyn g c.as_mut.result.now).meaning.state c.read_in.new.d))
    c.as_mut.ensures.value.1 c.read_in.ensures.law

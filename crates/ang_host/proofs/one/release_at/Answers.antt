use Rattle.std.proofs.Common.{subst, sym}
use Rattle.ang_host.specs.Laws.{IsLive, WasReleased}
use Rattle.ang_host.proofs.one.release_at.Goals as goal

pub release_in-requires : goal.release_in-requires
release_in-requires g c = record {
  key_live = subst (λ p. IsLive ((goal.Driver-dyn g p).meaning.state p.1) c.args.key) (sym c.as_mut.ensures.value.1) c.requires.key_live;
}

pub returns-clause-law : goal.returns-clause-law
returns-clause-law g c =
    subst (λ p. WasReleased (goal.Driver-dyn g p).meaning.fits ((goal.Driver-dyn g p).meaning.state p.1) c.args.key c.release_in.result ((goal.Driver-dyn g c.as_mut.result.now).meaning.state c.release_in.new.d))
    c.as_mut.ensures.value.1 c.release_in.ensures.law

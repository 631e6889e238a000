use Rattle.std.proofs.Common.{subst, sym}
use Rattle.ang_host.specs.Laws.{IsLive, WasAdded}
use Rattle.ang_host.proofs.one.add_ref_at.Goals as goal

pub add_ref_in-requires : goal.add_ref_in-requires
add_ref_in-requires g c = record {
  key_live = subst (λ p. IsLive ((goal.Driver-dyn g p).meaning.state p.1) c.args.key) (sym c.as_mut.ensures.value.1) c.requires.key_live;
}

pub returns-clause-law : goal.returns-clause-law
returns-clause-law g c =
    subst (λ p. WasAdded ((goal.Driver-dyn g p).meaning.state p.1) c.args.key c.add_ref_in.result ((goal.Driver-dyn g c.as_mut.result.now).meaning.state c.add_ref_in.new.d))
    c.as_mut.ensures.value.1 c.add_ref_in.ensures.law

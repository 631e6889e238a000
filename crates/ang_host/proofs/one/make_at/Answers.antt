use Rattle.std.proofs.Common.{subst, sym}
use Rattle.ang_host.specs.State.{make}
use Rattle.ang_host.specs.Laws.{AreLive, WasMade}
use Rattle.ang_host.proofs.one.make_at.Goals as goal

pub make_in-requires : goal.make_in-requires
make_in-requires g c = record {
  args_live = subst (λ p. AreLive ((goal.Driver-dyn g p).meaning.state p.1) c.args.args.now) (sym c.as_mut.ensures.value.1) c.requires.args_live;
}

pub returns-clause-law : goal.returns-clause-law
returns-clause-law g c =
    subst (λ p. WasMade (goal.Driver-dyn g p).meaning.fits ((goal.Driver-dyn g p).meaning.state p.1) (make c.args.f c.args.args.now) c.make_in.result ((goal.Driver-dyn g c.as_mut.result.now).meaning.state c.make_in.new.d))
    c.as_mut.ensures.value.1 c.make_in.ensures.law

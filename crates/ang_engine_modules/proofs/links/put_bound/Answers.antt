use Rattle.std.proofs.Common.{refl}
use Rattle.ang_engine_modules.proofs.Lists.{mapped_set, kept_set}
use Rattle.ang_engine_modules.proofs.links.put_bound.Goals as goal

pub returns-then-index-len-clause-bound : goal.returns-then-index-len-clause-bound
returns-then-index-len-clause-bound c = mapped_set (λ y. y.bound) c.args.imports.now.items c.args.index _

pub returns-then-index-len-clause-params : goal.returns-then-index-len-clause-params
returns-then-index-len-clause-params c = kept_set (λ y. y.params.items) c.args.imports.now.items c.args.index c.index_mut.result.now _ c.index_mut.ensures.value refl

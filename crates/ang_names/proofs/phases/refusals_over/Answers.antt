use Rattle.ang_names.proofs.Few.{phases_decide}
use Rattle.ang_names.proofs.Named.{found_as}
use Rattle.ang_names.proofs.phases.refusals_over.Goals as goal

pub returns : goal.returns
returns c = record {
  exact = found_as (λ later. later.items) _ _ c.first_refusals.result c.first_refusals.ensures.exact (phases_decide c.args.view.now _ c.args.all.now c.requires.listed);
}

use Rattle.std.proofs.Common.{◌∙◌}
use Rattle.ang_names.proofs.Named.{found_as, second_phase}
use Rattle.ang_names.proofs.phases.type_refusals.Goals as goal

pub returns : goal.returns
returns c = record {
  exact =
      found_as (λ found. found.items) _ _ c.type_refusals_in.result c.type_refusals_in.ensures.exact
      (second_phase c.args.view.now c.args.all.now _ _ c.in_ok-space.ensures.exact
      (c.in_ok-families.ensures.same ∙ c.as_slice.ensures.value ∙ c.in_ok-declaring.ensures.exact));
}

use Rattle.std.proofs.Common.{◌≡◌, map as list_map, ◌∙◌}
use Rattle.std.specs.List.{flat_map}
use Rattle.ang_names_listed.specs.Declarations.{declarations_of}
use Rattle.ang_names_classes.specs.Resolved.{names_of}
use Rattle.ang_names_listed.specs.Sources.{source_of}
use Rattle.ang_names.specs.Phases.{refusals_of}
use Rattle.ang_names.proofs.Named.{found_as}
use Rattle.ang_check_denials.specs.Denials.{rows_for}
use Rattle.ang_check.specs.Denials.{scope_of}
use Rattle.ang_check.proofs.denying.rows_of_phases.Goals as goal

pub returns : goal.returns
returns c =
    let list = c.args.masked.now.list in
    let mask = c.args.masked.now.mask in
    let view = c.args.view.now in
    let named : c.in_ok-names.names ≡ names_of view (declarations_of (list_map source_of c.args.scripts.now)) = c.in_ok-names.ensures.exact in
    let refused : c.as_slice-2.result.now ≡ refusals_of view (list_map source_of c.args.scripts.now) =
    c.as_slice-2.ensures.value ∙ c.in_ok-refused.ensures.exact in
    record {
      exact =
          found_as (λ rows. rows.items) _ _ c.rows_over-rows.result c.rows_over-rows.ensures.exact
          (λ i. flat_map (rows_for list mask (scope_of view (named i))) (refused i));
    }

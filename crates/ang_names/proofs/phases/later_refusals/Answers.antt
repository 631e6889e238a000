use Rattle.std.proofs.Common.{sym, ◌∙◌}
use Rattle.ang_names.proofs.Named.{found_as, none_left}
use Rattle.ang_names.proofs.Numbered.{types_passed}
use Rattle.ang_names.proofs.phases.later_refusals.Goals as goal

pub returns : goal.returns
returns c =
    let found = c.in_ok-found.found in
    let empty = none_left found.items found.len found.ok.0 (sym c.is_empty.ensures ∙ c.if-not-is_empty.false) in
    record {
      exact =
          found_as (λ later. later.items) _ _ c.heritage_refusals.result c.heritage_refusals.ensures.exact
          (types_passed c.args.view.now c.args.all.now found.items c.in_ok-found.ensures.exact empty);
    }

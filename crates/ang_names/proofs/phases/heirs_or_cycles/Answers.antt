use Rattle.std.proofs.Common.{sym, ◌∙◌}
use Rattle.ang_names.proofs.Named.{found_as, none_left}
use Rattle.ang_names.proofs.Numbered.{next_list}
use Rattle.ang_names.proofs.phases.heirs_or_cycles.Goals as goal

pub returns : goal.returns
returns c =
    let found = c.in_ok-found.found in
    let empty = none_left found.items found.len found.ok.0 (sym c.is_empty.ensures ∙ c.if-not-is_empty.false) in
    record {
      exact =
          found_as (λ later. later.items) _ _ c.ring_refusals.result c.ring_refusals.ensures.exact
          (next_list found.items _ _ c.in_ok-found.ensures.exact empty);
    }

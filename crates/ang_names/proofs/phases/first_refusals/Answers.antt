use Rattle.std.proofs.Common.{sym, ◌∙◌}
use Rattle.ang_names.proofs.Few.{few_where_none}
use Rattle.ang_names.proofs.Named.{none_left}
use Rattle.ang_names.proofs.phases.first_refusals.Goals as goal

pub later_refusals-requires : goal.later_refusals-requires
later_refusals-requires c =
    let found = c.in_ok-found.found in
    let empty = none_left found.items found.len found.ok.0 (sym c.is_empty.ensures ∙ c.if-not-is_empty.false) in
    record { few = few_where_none c.args.view.now c.args.all.now found.items c.in_ok-found.ensures.exact empty }

use Rattle.std.proofs.Common.{sym, ap, ◌∙◌}
use Rattle.std.specs.Option.{option_copied}
use Rattle.ang_view.specs.Groups.{names_into}
use Rattle.ang_view.proofs.Outside.{declared_among}
use Rattle.ang_view.proofs.group.names_into.Goals as goal

pub returns-in-Some : goal.returns-in-Some
returns-in-Some c =
    let R = c.args.list.now in
    let g = c.args.group.now in
    record { exact = c.entry_names_into.ensures.exact ∙ declared_among R g c.in-Some.entry.now ∙ ap (λ o. names_into R g (option_copied o)) (sym c.in-Some.is) }

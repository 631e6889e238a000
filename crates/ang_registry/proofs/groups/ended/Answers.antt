use Rattle.std.proofs.Common.{rules, ◌≡◌, true, sym, ap, ◌∙◌}
use Rattle.ang_registry.specs.Registrations.{closed_of}
use Rattle.ang_registry.proofs.Grouping.{all_but_last}
use Rattle.ang_registry.proofs.groups.ended.Goals as goal

pub returns-in-Some : goal.returns-in-Some
returns-in-Some c =
    let groups = c.args.groups.now in
    let is_open : c.args.is_open ≡ true = first_of (cc, search rules) in
    record { exact = all_but_last groups c.in-Some.ended.now c.in-Some.field-0-0.now c.in-Some.ensures.cases ∙ ap (λ b. closed_of b groups) (sym is_open) }

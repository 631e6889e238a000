use Rattle.std.proofs.Common.{◌≡◌, ap, sym, ◌∙◌}
use Rattle.std.specs.Prelude.{option_map}
use Rattle.ang_kinds.specs.declared.mask.EntityNo.{EntityNo}
use Rattle.ang_view.specs.Registration.{RegistrationList, seen, function_named}
use Rattle.ang_registry.specs.Registrations.{Registrations}
use Rattle.ang_view.proofs.Seen.{SeesFunction-from_function_named}
use Rattle.ang_registry.proofs.registry.Registry.find_function.Goals as goal

pub returns-clause-found : goal.returns-clause-found
returns-clause-found c =
    let list = c.args.self.now.entries in
    let mask = c.args.mask.0 in
    let name = c.args.name.now in
    let same : c.self.inside.list ≡ list = ap (λ (r : Registrations). r.entries) c.self.view_is in
    SeesFunction-from_function_named list mask name c.in_ok-number.number.0
    (sym (ap (λ (l : RegistrationList). function_named (seen l mask) name) same) ∙ (sym c.find_function.ensures.exact ∙ ap (option_map (λ (n : EntityNo). n.0)) c.in_ok-number.was))

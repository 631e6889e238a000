use Rattle.std.proofs.Common.{◌≡◌, ℕ, ap, ◌∙◌}
use Rattle.ang_view.specs.Named.{first_of}
use Rattle.ang_view.specs.Registration.{RegistrationList, entry_at}
use Rattle.ang_view.specs.Types.{is_enumeration_named}
use Rattle.ang_view.proofs.Named.{enumeration_found}
use Rattle.ang_view.proofs.view.View.find_enumeration.Goals as goal

pub returns : goal.returns
returns c =
    let list = c.args.self.now in
    let name = c.args.name.now in
    let found = c.find.result.now in
    let same : c.deref.result.now ≡ list = c.deref.ensures.value ∙ c.self.view_is in
    record {
      exact =
          c.first_enumeration.ensures.exact
          ∙ ap (λ (l : RegistrationList). first_of (λ (n : ℕ). is_enumeration_named name (entry_at l n)) found) same
          ∙ enumeration_found list name found c.find.ensures.exact;
    }

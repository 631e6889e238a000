use Rattle.std.proofs.Common.{not, rules, ◌∙◌}
use Rattle.std.proofs.lemmas.Fn.{filter_same}
use Rattle.ang_drivers.specs.Pages.{is_blank}
use Rattle.ang_drivers.proofs.pages.take_blank_out.Goals as goal

-- the closure's answer is the test
pub returns : goal.returns
returns g c = record {
  exact = c.give_back.ensures.same ∙ filter_same _ (λ p. not (is_blank p)) _ (λ x b f' k. search rules) _ _ c.retain.ensures.filtered;
}

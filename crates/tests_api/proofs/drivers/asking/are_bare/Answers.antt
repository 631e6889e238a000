use Rattle.std.proofs.Common.{sym, ◌∙◌}
use Rattle.tests_api.proofs.Living.{all_live}
use Rattle.tests_api.proofs.drivers.asking.are_bare.Goals as goal

pub returns : goal.returns
returns c = record { live = λ h s. all_live s c.args.values.now (sym c.name_nothing.ensures.exact ∙ h) }

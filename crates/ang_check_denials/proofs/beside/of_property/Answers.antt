use Rattle.std.proofs.Common.{refl}
use Rattle.ang_check_denials.proofs.beside.of_property.Goals as goal

pub returns-clause-rivals : goal.returns-clause-rivals
returns-clause-rivals c = c.in_ok-rivals.ensures.none _ _ refl

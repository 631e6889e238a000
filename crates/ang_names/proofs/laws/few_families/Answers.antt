use Rattle.ang_names.proofs.Few.{are_families, accepted_families, asked_families}
use Rattle.ang_names.proofs.laws.few_families.Goals as goal

pub returns : goal.returns
returns c = record { few = are_families; accepted = accepted_families; asked = asked_families }

use Rattle.ang_engine_call.proofs.SameHeading.{heading-Decides}
use Rattle.ang_engine_call.proofs.laws.headings_are_compared.Goals as goal

pub returns : goal.returns
returns c = record { same = λ f g. heading-Decides f g }

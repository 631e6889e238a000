use Rattle.ang_view.proofs.Blanking.{blank_indexed}
use Rattle.ang_view.proofs.laws.blanks_are_indexed.Goals as goal

pub returns : goal.returns
returns c = record { indexed = λ scope_of nowhere V n. blank_indexed scope_of nowhere V n }

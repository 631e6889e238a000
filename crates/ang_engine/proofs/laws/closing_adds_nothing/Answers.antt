use Rattle.ang_engine.proofs.Closing.{closing}
use Rattle.ang_engine.proofs.laws.closing_adds_nothing.Goals as goal

pub returns : goal.returns
returns c = record { same = closing }

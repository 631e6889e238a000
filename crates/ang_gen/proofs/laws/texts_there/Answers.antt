use Rattle.ang_gen.proofs.Composed.{texts_there}
use Rattle.ang_gen.proofs.laws.texts_there.Goals as goal

pub returns : goal.returns
returns c = record { there = λ modules m codes at. texts_there modules m codes at }

use Rattle.ang_lower.proofs.Methods.{methods_fit}
use Rattle.ang_lower.proofs.laws.methods_fit.Goals as goal

pub returns : goal.returns
returns c = record { fit = λ V z m p sound has n s g there. methods_fit V z m p sound has n s g there }

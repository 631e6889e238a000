use Rattle.ang_check_laws.proofs.MethodsWalk.{bodies}
use Rattle.ang_check_laws.proofs.methods.classes_have_bodies.Goals as goal

pub returns : goal.returns
returns c = record { bodies = bodies }

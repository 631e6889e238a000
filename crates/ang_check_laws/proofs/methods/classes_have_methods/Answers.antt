use Rattle.ang_check_laws.proofs.MethodsThere.{have_methods}
use Rattle.ang_check_laws.proofs.methods.classes_have_methods.Goals as goal

pub returns : goal.returns
returns c = record { methods = have_methods }

use Rattle.ang_check_laws.proofs.MethodsCalled.{methods_stand}
use Rattle.ang_check_laws.proofs.methods.methods_stand.Goals as goal

pub returns : goal.returns
returns c = record { each = methods_stand }

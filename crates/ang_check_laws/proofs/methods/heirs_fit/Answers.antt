use Rattle.ang_check_laws.proofs.MethodsPhases.{overrides, interfaces_met}
use Rattle.ang_check_laws.proofs.methods.heirs_fit.Goals as goal

pub returns : goal.returns
returns c = record { overrides = overrides; interfaces = interfaces_met }

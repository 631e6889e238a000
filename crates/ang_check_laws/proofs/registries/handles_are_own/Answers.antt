use Rattle.ang_check_laws.proofs.RegistryOwn.{handles_own}
use Rattle.ang_check_laws.proofs.registries.handles_are_own.Goals as goal

pub returns-clause-handles : goal.returns-clause-handles
returns-clause-handles c = handles_own

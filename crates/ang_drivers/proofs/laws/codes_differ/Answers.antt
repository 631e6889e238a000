use Rattle.ang_drivers.proofs.Codes.{code_of-injective}
use Rattle.ang_drivers.proofs.laws.codes_differ.Goals as goal

pub returns : goal.returns
returns c = record { apart = code_of-injective }

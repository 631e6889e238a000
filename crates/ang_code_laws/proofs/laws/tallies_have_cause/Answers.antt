use Rattle.ang_code_laws.proofs.laws.tallies_have_cause.Goals as goal
use Rattle.ang_code_laws.proofs.Causes.{call_tallies, initializer_tallies}

pub returns-clause-calls : goal.returns-clause-calls
returns-clause-calls c = call_tallies

pub returns-clause-initializers : goal.returns-clause-initializers
returns-clause-initializers c = initializer_tallies

use Rattle.ang_code_laws.proofs.laws.of_runs.Goals as goal
use Rattle.ang_code_laws.proofs.Whole.{call_runs_ask, initializer_runs_ask}

pub returns-clause-calls : goal.returns-clause-calls
returns-clause-calls c = call_runs_ask

pub returns-clause-initializers : goal.returns-clause-initializers
returns-clause-initializers c = initializer_runs_ask

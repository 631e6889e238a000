use Rattle.ang_code_laws.proofs.laws.runs_alike.Goals as goal
use Rattle.ang_code_laws.proofs.AlikeRuns.{call_runs_alike, initializer_runs_alike}

pub returns-clause-calls : goal.returns-clause-calls
returns-clause-calls c = call_runs_alike

pub returns-clause-initializers : goal.returns-clause-initializers
returns-clause-initializers c = initializer_runs_alike

use Rattle.ang_code_laws.proofs.laws.granted_runs_alike.Goals as goal
use Rattle.ang_code_laws.proofs.AlikeRuns.{granted_calls_alike, granted_initializers_alike}

pub returns-clause-calls : goal.returns-clause-calls
returns-clause-calls c = granted_calls_alike

pub returns-clause-initializers : goal.returns-clause-initializers
returns-clause-initializers c = granted_initializers_alike

use Rattle.ang_code_laws.proofs.laws.globals_are_kept.Goals as goal
use Rattle.ang_code_laws.proofs.Keeping.{steps_keep, call_runs_keep, initializer_runs_keep}

pub returns-clause-steps : goal.returns-clause-steps
returns-clause-steps c = steps_keep

pub returns-clause-calls : goal.returns-clause-calls
returns-clause-calls c = call_runs_keep

pub returns-clause-initializers : goal.returns-clause-initializers
returns-clause-initializers c = initializer_runs_keep

use Rattle.ang_code_laws.proofs.laws.counts_at_the_end.Goals as goal
use Rattle.ang_code_laws.proofs.Counting.{call_runs_count, initializer_runs_count}

pub returns-clause-calls : goal.returns-clause-calls
returns-clause-calls c = call_runs_count

pub returns-clause-initializers : goal.returns-clause-initializers
returns-clause-initializers c = initializer_runs_count

use Rattle.ang_source_typed.proofs.laws.null_comes_of_null.Goals as goal
use Rattle.ang_source_typed.proofs.Causes.{calls_tell_causes, initializers_tell_causes}

pub returns-clause-calls : goal.returns-clause-calls
returns-clause-calls c = calls_tell_causes

pub returns-clause-initializers : goal.returns-clause-initializers
returns-clause-initializers c = initializers_tell_causes

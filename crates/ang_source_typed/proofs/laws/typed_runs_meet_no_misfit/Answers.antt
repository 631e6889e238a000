use Rattle.ang_source_typed.proofs.laws.typed_runs_meet_no_misfit.Goals as goal
use Rattle.ang_source_typed.proofs.Bodies.{calls_meet_no_misfit}
use Rattle.ang_source_typed.proofs.Initializers.{initializers_meet_no_misfit}

pub returns-clause-calls : goal.returns-clause-calls
returns-clause-calls c = calls_meet_no_misfit

pub returns-clause-initializers : goal.returns-clause-initializers
returns-clause-initializers c = initializers_meet_no_misfit

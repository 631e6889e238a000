use Rattle.std.proofs.Common.{ap}
use Rattle.ang_registry.specs.Registrations.{grouped}
use Rattle.ang_engine.proofs.engine.Engine.call_prepared_unheard.Goals as goal

pub returns-clause-list : goal.returns-clause-list
returns-clause-list g c = ap grouped c.finish_prepared.ensures.registry

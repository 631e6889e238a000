use Rattle.ang_engine.proofs.Limiting.{held_same}
use Rattle.ang_engine.proofs.engine.Engine.held.Goals as goal

pub returns : goal.returns
returns g c = record { exact = held_same c.held.result _ c.held.ensures.slots c.held.ensures.objects }

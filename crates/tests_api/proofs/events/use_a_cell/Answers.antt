use Rattle.tests_api.proofs.Living.{live_made}
use Rattle.tests_api.proofs.events.use_a_cell.Goals as goal

pub release_listed-requires-clause-key_live : goal.release_listed-requires-clause-key_live
release_listed-requires-clause-key_live g c = live_made _ _ _ _ c.in-Key.key c.in-Key.ensures.moved.moved

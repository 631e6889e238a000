use Rattle.tests_api.proofs.Living.{live_added}
use Rattle.tests_api.proofs.drivers.asking.added.Goals as goal

pub returns-then-add_ref : goal.returns-then-add_ref
returns-then-add_ref g c = record { live = live_added _ _ _ c.if-add_ref.ensures.law }

use Rattle.tests_api.proofs.Living.{live_made}
use Rattle.tests_api.proofs.drivers.asking.made.Goals as goal

pub returns-in-Key : goal.returns-in-Key
returns-in-Key g c = record { live = live_made g.D.Driver.meaning.fits _ _ _ c.in-Key.key c.in-Key.ensures.law }

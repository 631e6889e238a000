use Rattle.tests_session.proofs.Living.{live_made}
use Rattle.tests_session.proofs.remote.objects.made.Goals as goal

pub returns-in-Key : goal.returns-in-Key
returns-in-Key g c = record { live = live_made g.D.Driver.meaning.fits _ _ _ c.in-Key.key c.in-Key.ensures.law }

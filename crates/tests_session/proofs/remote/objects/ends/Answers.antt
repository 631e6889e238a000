use Rattle.tests_session.proofs.Living.{live_added, live_released}
use Rattle.tests_session.proofs.remote.objects.ends.Goals as goal

pub release-requires : goal.release-requires
release-requires g c = record { key_live = live_added _ _ _ c.if-not-add_ref.ensures.law }

pub release-requires-2 : goal.release-requires-2
release-requires-2 g c = record { key_live = live_released g.D.Driver.meaning.fits _ _ _ c.if-release.ensures.law }

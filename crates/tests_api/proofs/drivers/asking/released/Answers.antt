use Rattle.tests_api.proofs.Living.{live_released}
use Rattle.tests_api.proofs.drivers.asking.released.Goals as goal

pub returns-else-release : goal.returns-else-release
returns-else-release g c = record { live = live_released g.D.Driver.meaning.fits _ _ _ c.if-release.ensures.law }

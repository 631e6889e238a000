use Rattle.ang_host.proofs.Events.{Follows-join}
use Rattle.ang_host.proofs.laws.follows_join.Goals as goal

pub returns : goal.returns
returns g c = record { joined = λ roles s t u xs ys p q. Follows-join roles g.D.Driver.meaning.fits s t u xs ys p q }

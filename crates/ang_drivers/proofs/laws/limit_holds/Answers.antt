use Rattle.std.proofs.Common.{refl}
use Rattle.ang_drivers.specs.Limited.{limited_core}
use Rattle.ang_drivers.proofs.Spent.{at_most}
use Rattle.ang_drivers.proofs.laws.limit_holds.Goals as goal

pub returns : goal.returns
returns g c = record {
  at_most = λ roles l left x d events h u. at_most g.D.Driver.meaning.fits l roles events left x (limited_core l left x) d refl h u;
}

use Rattle.ang_drivers.proofs.Spent.{passed_below, refused_above, begins_anew}
use Rattle.ang_drivers.proofs.laws.limited_moves.Goals as goal

pub returns : goal.returns
returns g c =
    let fits = g.D.Driver.meaning.fits in record { below = passed_below fits; above = refused_above fits; reset = begins_anew fits }

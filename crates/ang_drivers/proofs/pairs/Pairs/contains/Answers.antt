use Rattle.std.proofs.Common.{rules}
use Rattle.std.specs.Int.{w64}
use Rattle.std.specs.Int.RustNames.{FitsSigned}
use Rattle.std.proofs.lemmas.Int.{to_z-of_z}
use Rattle.ang_drivers.proofs.Pairing.{known, unknown}
use Rattle.ang_drivers.proofs.pairs.Pairs.contains.Goals as goal

pub returns-in-Ok : goal.returns-in-Ok
returns-in-Ok c =
    let fits : FitsSigned w64 c.args.key = search rules in
    record { exact = known c.args.self.now c.args.key _ _ (to_z-of_z w64 c.args.key fits) c.in-Ok.ensures.found }

pub returns-in-Err : goal.returns-in-Err
returns-in-Err c =
    let fits : FitsSigned w64 c.args.key = search rules in
    record { exact = unknown c.args.self.now c.args.key _ _ (to_z-of_z w64 c.args.key fits) c.in-Err.ensures.rises c.in-Err.ensures.absent }

use Rattle.std.proofs.Common.{rules}
use Rattle.std.specs.Int.{w64}
use Rattle.std.specs.Int.RustNames.{FitsSigned}
use Rattle.std.proofs.lemmas.Int.{to_z-of_z}
use Rattle.ang_drivers.proofs.Pairing.{adds}
use Rattle.ang_drivers.proofs.pairs.Pairs.add.Goals as goal

pub returns-clause-set : goal.returns-clause-set
returns-clause-set c =
    let fits_key : FitsSigned w64 c.args.key = search rules in
    let fits : FitsSigned w64 c.args.number = search rules in
    adds c.args.self.now c.insert.new.self c.args.key c.args.number _ _ c.args.bound c.if-not-has_room.ensures.exact (to_z-of_z w64 c.args.key fits_key)
    (to_z-of_z w64 c.args.number fits) c.in_ok-insert.ensures.inserted

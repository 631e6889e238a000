use Rattle.std.proofs.Common.{rules, refl, sym}
use Rattle.std.specs.Int.{w64}
use Rattle.std.specs.Int.RustNames.{FitsSigned}
use Rattle.std.proofs.lemmas.Int.{to_z-of_z}
use Rattle.ang_drivers.proofs.Pairing.{sets_known, unknown, set_as, unchanged_as}
use Rattle.ang_drivers.proofs.pairs.Pairs.set.Goals as goal

pub add-requires-clause-fresh : goal.add-requires-clause-fresh
add-requires-clause-fresh c = sym (unknown c.args.self.now _ _ c.in-Err.place refl c.in-Err.ensures.rises c.in-Err.ensures.absent)

pub returns-in-Ok-clause-set : goal.returns-in-Ok-clause-set
returns-in-Ok-clause-set c =
    let fits_key : FitsSigned w64 c.args.key = search rules in
    let fits : FitsSigned w64 c.args.number = search rules in
    sets_known c.args.self.now c.put.new.self c.args.key c.args.number _ _ c.in-Ok.place c.args.bound (to_z-of_z w64 c.args.key fits_key)
    (to_z-of_z w64 c.args.number fits) c.in-Ok.ensures.found c.put.ensures.replaced

pub returns-in-Err-clause-set : goal.returns-in-Err-clause-set
returns-in-Err-clause-set c =
    let fits_key : FitsSigned w64 c.args.key = search rules in
    let fits : FitsSigned w64 c.args.number = search rules in
    set_as c.add.result c.args.self.now c.add.new.self c.args.key c.args.number _ _ c.args.bound (to_z-of_z w64 c.args.key fits_key)
    (to_z-of_z w64 c.args.number fits) c.add.ensures.set

pub returns-in-Err-clause-unchanged : goal.returns-in-Err-clause-unchanged
returns-in-Err-clause-unchanged c =
    let fits_key : FitsSigned w64 c.args.key = search rules in
    let fits : FitsSigned w64 c.args.number = search rules in
    unchanged_as c.add.result c.args.self.now c.add.new.self c.args.key c.args.number _ _ c.args.bound (to_z-of_z w64 c.args.key fits_key)
    (to_z-of_z w64 c.args.number fits) c.add.ensures.unchanged

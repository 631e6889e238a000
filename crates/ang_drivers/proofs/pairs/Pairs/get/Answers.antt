use Rattle.std.proofs.Common.{rules, ◌∙◌}
use Rattle.std.specs.Int.{w64}
use Rattle.std.specs.Int.RustNames.{FitsSigned}
use Rattle.std.proofs.lemmas.Int.{to_z-of_z}
use Rattle.ang_drivers.proofs.Pairing.{told_at, not_told}
use Rattle.ang_drivers.proofs.pairs.Pairs.get.Goals as goal

pub returns-in-Ok : goal.returns-in-Ok
returns-in-Ok c =
    let fits : FitsSigned w64 c.args.key = search rules in
    record { exact = c.number.ensures.exact ∙ told_at c.args.self.now c.args.key _ c.in-Ok.place (to_z-of_z w64 c.args.key fits) c.in-Ok.ensures.found }

pub returns-in-Err : goal.returns-in-Err
returns-in-Err c =
    let fits : FitsSigned w64 c.args.key = search rules in
    record { exact = not_told c.args.self.now c.args.key _ _ (to_z-of_z w64 c.args.key fits) c.in-Err.ensures.rises c.in-Err.ensures.absent }

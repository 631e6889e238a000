use Rattle.std.proofs.Common.{rules, refl, ap, ◌∙◌, to_z, of_z}
use Rattle.std.specs.Prelude.{slice_set}
use Rattle.std.specs.Int.{w64}
use Rattle.std.specs.Int.RustNames.{FitsSigned}
use Rattle.std.proofs.lemmas.Int.{to_z-of_z}
use Rattle.ang_drivers.specs.IntList.{place}
use Rattle.ang_drivers.proofs.Listing.{put_is}
use Rattle.ang_drivers.proofs.numbers.Numbers.set.Goals as goal

pub returns-in-Some : goal.returns-in-Some
returns-in-Some c =
    let xs = c.self.inside.items.items in
    let k = c.in-Some.place in
    let z = c.args.number in
    let w = to_z w64 (of_z w64 z) in
    let fits : FitsSigned w64 z = search rules in
    let fits_index : FitsSigned w64 c.args.index = search rules in
    let at = c.in-Some.ensures.exact ∙ ap (place c.args.self.now) (to_z-of_z w64 c.args.index fits_index) in
    record { sets = put_is xs (slice_set xs k w) c.args.self.now c.args.index k z w c.self.view_is at (to_z-of_z w64 z fits) refl }

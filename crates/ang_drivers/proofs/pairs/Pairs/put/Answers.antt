use Rattle.std.specs.Prelude.{ℤ, ◌≡◌, T, slice_set}
use Rattle.std.specs.Ordering.{int_cmp}
use Rattle.std.specs.FinMap.{is_sorted}
use Rattle.std.proofs.Common.{rules, refl, sym, subst, to_z, of_z}
use Rattle.std.specs.Int.{w64}
use Rattle.std.specs.Int.RustNames.{FitsSigned}
use Rattle.std.proofs.lemmas.Int.{to_z-of_z}
use Rattle.ang_drivers.specs.Places.{IsAt}
use Rattle.ang_drivers.proofs.Pairing.{replaced, put_rises}
use Rattle.ang_drivers.proofs.pairs.Pairs.put.Goals as goal

pub invariant_of-self : goal.invariant_of-self
invariant_of-self c =
    let es = c.self.inside.items.items in
    let k = c.args.key in
    let z = c.args.number in
    let p : ℤ × ℤ = (to_z w64 (of_z w64 k), to_z w64 (of_z w64 z)) in
    let fits_key : FitsSigned w64 k = search rules in
    let fits : FitsSigned w64 z = search rules in
    let here : IsAt es k c.args.place = subst (λ l. IsAt l k c.args.place) (sym c.self.view_is) c.requires.at in
    let same : p ≡ (k, z) = λ i. (to_z-of_z w64 k fits_key i, to_z-of_z w64 z fits i) in
    subst (λ l. T (is_sorted int_cmp l)) (sym (replaced es es (slice_set es c.args.place p) k z c.args.place p refl here same refl)) (put_rises es k z c.self.invariant)

pub returns : goal.returns
returns c =
    let es = c.self.inside.items.items in
    let k = c.args.key in
    let z = c.args.number in
    let p : ℤ × ℤ = (to_z w64 (of_z w64 k), to_z w64 (of_z w64 z)) in
    let fits_key : FitsSigned w64 k = search rules in
    let fits : FitsSigned w64 z = search rules in
    let same : p ≡ (k, z) = λ i. (to_z-of_z w64 k fits_key i, to_z-of_z w64 z fits i) in
    record { replaced = replaced es c.args.self.now (slice_set es c.args.place p) k z c.args.place p c.self.view_is c.requires.at same refl }

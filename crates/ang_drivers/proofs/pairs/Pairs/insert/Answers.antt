use Rattle.std.specs.Prelude.{ℤ, ◌≡◌, T}
use Rattle.std.specs.Ordering.{int_cmp}
use Rattle.std.specs.FinMap.{is_sorted}
use Rattle.std.proofs.Common.{rules, refl, sym, subst, to_z, of_z}
use Rattle.std.specs.Int.{w64}
use Rattle.std.specs.Int.RustNames.{FitsSigned}
use Rattle.std.proofs.lemmas.Int.{to_z-of_z}
use Rattle.ang_drivers.specs.Places.{IsGap}
use Rattle.ang_drivers.proofs.Pairing.{inserted, put_rises}
use Rattle.ang_drivers.proofs.pairs.Pairs.insert.Goals as goal

pub invariant_of-self-2 : goal.invariant_of-self-2
invariant_of-self-2 c =
    let es = c.self.inside.items.items in
    let k = c.args.key in
    let z = c.args.number in
    let p : ℤ × ℤ = (to_z w64 (of_z w64 k), to_z w64 (of_z w64 z)) in
    let fits_key : FitsSigned w64 k = search rules in
    let fits : FitsSigned w64 z = search rules in
    let here : IsGap es k c.args.place = subst (λ l. IsGap l k c.args.place) (sym c.self.view_is) c.requires.gap in
    let same : p ≡ (k, z) = λ i. (to_z-of_z w64 k fits_key i, to_z-of_z w64 z fits i) in
    subst (λ l. T (is_sorted int_cmp l)) (sym (inserted es es _ k z c.args.place p refl here same c.in_ok-insert.ensures.items)) (put_rises es k z c.self.invariant)

pub returns-clause-inserted : goal.returns-clause-inserted
returns-clause-inserted c =
    let es = c.self.inside.items.items in
    let k = c.args.key in
    let z = c.args.number in
    let p : ℤ × ℤ = (to_z w64 (of_z w64 k), to_z w64 (of_z w64 z)) in
    let fits_key : FitsSigned w64 k = search rules in
    let fits : FitsSigned w64 z = search rules in
    let same : p ≡ (k, z) = λ i. (to_z-of_z w64 k fits_key i, to_z-of_z w64 z fits i) in
    inserted es c.args.self.now _ k z c.args.place p c.self.view_is c.requires.gap same c.in_ok-insert.ensures.items

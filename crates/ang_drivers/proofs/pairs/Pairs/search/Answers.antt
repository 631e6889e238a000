use Rattle.std.proofs.Common.{rules}
use Rattle.std.specs.Int.{w64}
use Rattle.std.specs.Int.RustNames.{FitsSigned}
use Rattle.std.proofs.lemmas.Int.{to_z-of_z}
use Rattle.std.proofs.lemmas.List.Sorted.{answers_always}
use Rattle.ang_drivers.proofs.Pairing.{searched_as}
use Rattle.ang_drivers.proofs.pairs.Pairs.search.Goals as goal

-- the closure gives a pair's key, and the slice is the map's pairs
pub returns : goal.returns
returns c =
    let facts = c.binary_search_by_key.ensures in
    let by_key = facts.position (λ pair. pair.0) (answers_always _ _ _ (λ f a r g called. search rules)) in
    let fits : FitsSigned w64 c.args.key = search rules in
    rw (← c.self.view_is, ← c.deref.ensures.value) (searched_as _ (rw c.deref.ensures.value c.self.invariant) c.args.key _ (to_z-of_z w64 c.args.key fits) _ facts.bound by_key)

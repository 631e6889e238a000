use Rattle.std.proofs.Common.{◌≡◌, ℕ, false, Option, Some, None, IsSome, is_none, below_more, subst, rules, refl}
use Rattle.ang_types.proofs.overloads.is_viable.Goals as goal

IsSome-from_test : (o : Option ℕ) → is_none o ≡ false → IsSome o
IsSome-from_test None e = cc
IsSome-from_test (Some x) e = refl

pub loop-k-preserved : goal.loop-k-preserved
loop-k-preserved c =
    let there : IsSome c.rank_of_place.result = IsSome-from_test _ (search rules) in
    below_more _ _ c.loop-k.invariant (subst IsSome c.rank_of_place.ensures.exact there)

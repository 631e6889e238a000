use Rattle.std.specs.Prelude.{true, ◌≡◌, ◌↔◌, IsSome}
use Rattle.std.proofs.Common.{rules, subst, below_more}
use Rattle.ang_types.specs.Overloads.{IsLess}
use Rattle.ang_types.proofs.StandingLaws.{at_ranks, some_more, ranked_by_test}
use Rattle.ang_types.proofs.overloads.outdoes.Goals as goal

pub loop-k-preserved : goal.loop-k-preserved
loop-k-preserved c =
    let there : IsSome c.rank_of_place-rank.result = ranked_by_test _ (search rules) in
    let not_greater : ¬ IsLess c.rank_of_place-other.result c.rank_of_place-rank.result = search rules in
    record {
      ranked = below_more _ _ c.loop-k.invariant.ranked (subst IsSome c.rank_of_place-rank.ensures.exact there);
      none_greater = below_more _ _ c.loop-k.invariant.none_greater (at_ranks (λ q r. ¬ IsLess r q) _ _ _ _ c.rank_of_place-rank.ensures.exact c.rank_of_place-other.ensures.exact not_greater);
      one_less = some_more c.loop-k.is_ahead c.is_less-is_ahead.result _ c.loop-k.k c.loop-k.invariant.one_less
          (at_ranks (λ q r. (c.is_less-is_ahead.result ≡ true) ↔ IsLess q r) _ _ _ _ c.rank_of_place-rank.ensures.exact c.rank_of_place-other.ensures.exact c.is_less-is_ahead.ensures.exact);
    }

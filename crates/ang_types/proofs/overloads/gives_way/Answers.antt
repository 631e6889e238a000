use Rattle.std.specs.Prelude.{true, ◌≡◌, ◌↔◌, IsSome}
use Rattle.std.proofs.Common.{rules, subst, below_more}
use Rattle.ang_types.specs.Overloads.{IsLess}
use Rattle.ang_types.proofs.StandingLaws.{at_ranks, some_more, ranked_by_test}
use Rattle.ang_types.proofs.overloads.gives_way.Goals as goal

pub loop-k-preserved : goal.loop-k-preserved
loop-k-preserved c =
    let there : IsSome c.rank_of_place-rank.result = ranked_by_test _ (search rules) in
    record {
      ranked = below_more _ _ c.loop-k.invariant.ranked (subst IsSome c.rank_of_place-rank.ensures.exact there);
      ahead = some_more c.loop-k.is_ahead c.is_less-is_ahead.result _ c.loop-k.k c.loop-k.invariant.ahead
          (at_ranks (λ q r. (c.is_less-is_ahead.result ≡ true) ↔ IsLess q r) _ _ _ _ c.rank_of_place-rank.ensures.exact c.rank_of_place-other.ensures.exact c.is_less-is_ahead.ensures.exact);
      behind = some_more c.loop-k.is_behind c.is_less-is_behind.result _ c.loop-k.k c.loop-k.invariant.behind
          (at_ranks (λ q r. (c.is_less-is_behind.result ≡ true) ↔ IsLess r q) _ _ _ _ c.rank_of_place-rank.ensures.exact c.rank_of_place-other.ensures.exact c.is_less-is_behind.ensures.exact);
    }

use Rattle.std.proofs.Common.{rules, ◌≡◌, length, drop, sym, ◌∙◌}
use Rattle.ang_check_contest.specs.Contest as spec
use Rattle.ang_check_contest.proofs.RankLaws.{lesser_none, nothing_more}
use Rattle.ang_check_contest.proofs.score.lesser_ranks.Goals as goal

pub returns-in_default : goal.returns-in_default
returns-in_default c =
    let over : length c.loop-rank.rest.now ≡ 0 = search rules in
    let left = spec.lesser_ranks (drop c.loop-rank.rank-index c.args.ranks.now) c.loop-rank.rest.now in
    record {
      exact = sym (c.loop-rank.invariant
          ∙ nothing_more c.loop-rank.lesser.items left (lesser_none (drop c.loop-rank.rank-index c.args.ranks.now) c.loop-rank.rest.now over));
    }

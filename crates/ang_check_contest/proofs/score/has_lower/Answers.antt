use Rattle.std.proofs.Common.{rules, ◌≡◌, length, drop, sym, ◌∙◌}
use Rattle.ang_check_contest.proofs.RankLaws.{lower_none}
use Rattle.ang_check_contest.proofs.score.has_lower.Goals as goal

pub returns-in_default : goal.returns-in_default
returns-in_default c =
    let over : length c.loop-rank.rest.now ≡ 0 = search rules in
    record { exact = sym (c.loop-rank.invariant ∙ lower_none (drop c.loop-rank.rank-index c.args.ranks.now) c.loop-rank.rest.now over) }

use Rattle.std.proofs.Common.{rules, arith, ◌≡◌, ◌<◌, drop, length, length-drop, sym, ◌∙◌}
use Rattle.ang_check_contest.proofs.WinLaws.{lacking_wins_not}
use Rattle.ang_check_contest.proofs.rivalry.wins_by_ranks.Goals as goal

pub returns-in_default : goal.returns-in_default
returns-in_default c =
    let left = drop c.loop-param.param-index c.args.params.now in
    let over : length c.loop-param.rest.now ≡ 0 = search rules in
    let some : 0 < length left = omega (arith, c.loop-param-test.true, length-drop c.loop-param.param-index c.args.params.now) in
    record { exact = sym (c.loop-param.invariant ∙ lacking_wins_not c.args.lineage.now left c.loop-param.rest.now c.loop-param.others.now c.loop-param.ahead over some) }

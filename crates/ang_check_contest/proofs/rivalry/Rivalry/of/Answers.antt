use Rattle.std.proofs.Common.{rules, ◌≡◌, true, false, Some, map, ap, ◌∙◌}
use Rattle.std.specs.Prelude.{is_some}
use Rattle.ang_check_contest.specs.Levels.{known_ranks}
use Rattle.ang_check_contest.proofs.ContestLaws.{none_kept, some_kept}
use Rattle.ang_check_contest.proofs.rivalry.Rivalry.of.Goals as goal

pub returns-then-is_viable : goal.returns-then-is_viable
returns-then-is_viable c =
    let s = c.args.contest.now in
    let viable : is_some s.least ≡ true = search rules in
    let kept : c.in_ok-least.least.items ≡ map Some (known_ranks s.least) = c.in_ok-least.ensures.exact ∙ ap (map Some) c.least.ensures.exact in
    record { rivals = λ ancestors candidates args is long. some_kept ancestors candidates args s c.in_ok-least.least.items c.is_led-tied.result is viable kept c.is_led-tied.ensures.exact }

pub returns : goal.returns
returns c =
    let s = c.args.contest.now in
    let none : is_some s.least ≡ false = search rules in
    record { rivals = λ ancestors candidates args is long. none_kept ancestors candidates args s c.args.arguments c.in_ok-none.none.items is none long c.in_ok-none.ensures.size c.in_ok-none.ensures.none }

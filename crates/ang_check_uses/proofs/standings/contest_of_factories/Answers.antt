use Rattle.std.proofs.Common.{rules, ◌≡◌, map as list_map}
use Rattle.ang_kinds.specs.declared.mask.EntityNo.{EntityNo}
use Rattle.ang_view.specs.Named.{makers}
use Rattle.ang_check_uses.proofs.ChosenLaws.{contest_of_factories as of_factories}
use Rattle.ang_check_uses.proofs.standings.contest_of_factories.Goals as goal

pub returns : goal.returns
returns c =
    let s = c.args.scope.now in
    let es = c.makers-numbers.result.now in
    let row : list_map (λ (e : EntityNo). e.0) es ≡ makers s.view c.args.number = search rules in
    record {
      contest = of_factories s.ancestors c.args.args.now s.view c.args.number es c.in_ok-contest.contest row c.in_ok-contest.ensures.entered;
    }

use Rattle.ang_check_uses.proofs.ChosenLaws.{contest_of_functions as of_functions, functions_empty}
use Rattle.ang_check_uses.proofs.standings.contest_of_functions.Goals as goal

pub returns : goal.returns
returns c =
    let s = c.args.scope.now in
    let name = c.args.name.now in
    let args = c.args.args.now in
    record {
      contest = of_functions s name args c.in_ok-contest.contest c.in_ok-contest.ensures.entered;
      empty = functions_empty s name args c.in_ok-contest.contest c.in_ok-contest.ensures.entered;
    }

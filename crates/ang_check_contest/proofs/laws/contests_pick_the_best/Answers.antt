use Rattle.ang_check_contest.proofs.ContestLaws.{outcome_best}
use Rattle.ang_check_contest.proofs.laws.contests_pick_the_best.Goals as goal

pub returns : goal.returns
returns c = record { best = λ l args es. outcome_best l args es }

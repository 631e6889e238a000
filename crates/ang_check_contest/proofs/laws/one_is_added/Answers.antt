use Rattle.ang_check_contest.proofs.Adding.{one_added}
use Rattle.ang_check_contest.proofs.AddingProperties.{one_property_added}
use Rattle.ang_check_contest.proofs.laws.one_is_added.Goals as goal

pub returns : goal.returns
returns c = record { function = one_added; property = one_property_added }

use Rattle.ang_view.proofs.Grouping.{names_left}
use Rattle.ang_view.proofs.laws.groups_stand_alone.Goals as goal

pub returns : goal.returns
returns c = record { left = names_left }

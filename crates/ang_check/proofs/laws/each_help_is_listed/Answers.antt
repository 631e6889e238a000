use Rattle.ang_check.proofs.Listed.{each_help_is_listed}
use Rattle.ang_check.proofs.laws.each_help_is_listed.Goals as goal

pub returns : goal.returns
returns c = record { rows = each_help_is_listed }

use Rattle.ang_parse_stmt.proofs.ExactlyParams.{one_tree}
use Rattle.ang_parse_stmt.proofs.whole_parameters.one_tree.Goals as goal

pub returns : goal.returns
returns c = record { unique = one_tree }

use Rattle.ang_check_stmt.proofs.NoWay.{no_way_body}
use Rattle.ang_check_stmt.proofs.laws.no_path_is_missed.Goals as goal

pub returns : goal.returns
returns c = record { ends = no_way_body }

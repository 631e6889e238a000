use Rattle.ang_parse_stmt.proofs.Views.{if_made}
use Rattle.ang_parse_stmt.proofs.build.conditional.Goals as goal

pub returns : goal.returns
returns c = record { exact = if_made _ _ _ }

use Rattle.ang_parse_stmt.proofs.Views.{while_made}
use Rattle.ang_parse_stmt.proofs.build.while_loop.Goals as goal

pub returns : goal.returns
returns c = record { exact = while_made _ _ }

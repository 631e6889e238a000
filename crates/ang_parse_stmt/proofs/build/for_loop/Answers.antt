use Rattle.ang_parse_stmt.proofs.Views.{for_made}
use Rattle.ang_parse_stmt.proofs.build.for_loop.Goals as goal

pub returns : goal.returns
returns c = record { exact = for_made _ _ }

use Rattle.ang_parse_stmt.proofs.Views.{else_made}
use Rattle.ang_parse_stmt.proofs.build.else_of.Goals as goal

pub returns : goal.returns
returns c = record { exact = else_made _ _ }

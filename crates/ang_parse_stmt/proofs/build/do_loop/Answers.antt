use Rattle.ang_parse_stmt.proofs.Views.{do_while_made}
use Rattle.ang_parse_stmt.proofs.build.do_loop.Goals as goal

pub returns : goal.returns
returns c = record { exact = do_while_made _ _ }

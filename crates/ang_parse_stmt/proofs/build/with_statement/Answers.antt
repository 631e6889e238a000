use Rattle.ang_parse_stmt.proofs.Views.{view_stmts_push}
use Rattle.ang_parse_stmt.proofs.build.with_statement.Goals as goal

pub returns : goal.returns
returns c = record { exact = rw c.in_ok-push.ensures.items (view_stmts_push _ _) }

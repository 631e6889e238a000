use Rattle.ang_check_stmt.proofs.Beginning.{stmt_first, start_first, stmt_at}
use Rattle.ang_check_stmt.proofs.laws.statements_begin.Goals as goal

pub returns : goal.returns
returns c = record { tokens = stmt_first; starts = start_first; positions = stmt_at }

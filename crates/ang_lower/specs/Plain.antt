-- A statement and a body of the core tree of the program without where they lie in memory.
use Rattle.ang_core.specs.declared.tree.CoreBody.{CoreBody}
use Rattle.ang_core.specs.declared.tree.CoreStatement.{CoreStatement, Row_of-CoreStatement, end_of-CoreStatement, more_of-CoreStatement}
use Rattle.ang_core.specs.declared.tree.CoreStatement.TheVariants.{Skip, Evaluate, Declare, Block', If', While', DoWhile', Return, Break, Continue}
use Rattle.ang_lower.specs.PlainExpr.{plain_tree}
use Rattle.ang_lower.specs.Tree as stmt

abbrev mutual
  pub plain_stmt : CoreStatement → stmt.Stmt
  plain_stmt Skip = stmt.skip
  plain_stmt (Evaluate e) = stmt.evaluate (plain_tree e)
  plain_stmt (Declare e) = stmt.declare (plain_tree e)
  plain_stmt (Block' shape row) = stmt.block (plain_stmts row)
  plain_stmt (If' e x a y b) = stmt.either (plain_tree e) (plain_stmt a) (plain_stmt b)
  plain_stmt (While' e x s y step) = stmt.while (plain_tree e) (plain_stmt s) (plain_stmt step)
  plain_stmt (DoWhile' e x s) = stmt.do_while (plain_tree e) (plain_stmt s)
  plain_stmt (Return e) = stmt.return (plain_tree e)
  plain_stmt Break = stmt.break
  plain_stmt Continue = stmt.continue

  pub plain_stmts : {k : _} → Row_of-CoreStatement k → stmt.Stmts
  plain_stmts end_of-CoreStatement = stmt.end
  plain_stmts (more_of-CoreStatement s rest) = stmt.«then» (plain_stmt s) (plain_stmts rest)

abbrev pub plain_body : CoreBody → stmt.Whole
plain_body b = record { params = b.params.items; result = b.result; statement = plain_stmt b.statement }

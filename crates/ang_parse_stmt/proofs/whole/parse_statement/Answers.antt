use Rattle.ang_tree.specs.Stmt.{Stmt, SpellsStmt}
use Rattle.ang_tree.specs.View.{view_stmt}
use Rattle.ang_parse_read.proofs.Whole.{given_all}
use Rattle.ang_parse_stmt.specs.ReadStmt as read
use Rattle.ang_parse_stmt.proofs.SoundStmt.{IsStmt}
use Rattle.ang_parse_stmt.proofs.Exactly.{statements_exact}
use Rattle.ang_parse_stmt.proofs.whole.parse_statement.Goals as goal

pub returns-clause-found : goal.returns-clause-found
returns-clause-found c = (given_all Stmt (λ n. read.stmt n n) (λ ts. Unit {0}) IsStmt SpellsStmt statements_exact _ view_stmt c.all.result c.args.tokens.now tt c.all.ensures.reads).0

pub returns-clause-only : goal.returns-clause-only
returns-clause-only c = (given_all Stmt (λ n. read.stmt n n) (λ ts. Unit {0}) IsStmt SpellsStmt statements_exact _ view_stmt c.all.result c.args.tokens.now tt c.all.ensures.reads).1

pub returns-clause-fault : goal.returns-clause-fault
returns-clause-fault c = (given_all Stmt (λ n. read.stmt n n) (λ ts. Unit {0}) IsStmt SpellsStmt statements_exact _ view_stmt c.all.result c.args.tokens.now tt c.all.ensures.reads).2

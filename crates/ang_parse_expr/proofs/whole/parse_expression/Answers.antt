use Rattle.ang_tree.specs.Tree.{Tree, Spells}
use Rattle.ang_tree.specs.View.{view_expr}
use Rattle.ang_parse_read.proofs.Whole.{given_all}
use Rattle.ang_parse_expr.specs.ReadExpr as read
use Rattle.ang_parse_expr.proofs.Sound.{IsExpr}
use Rattle.ang_parse_expr.proofs.Exactly.{expressions_exact}
use Rattle.ang_parse_expr.proofs.whole.parse_expression.Goals as goal

pub returns-clause-found : goal.returns-clause-found
returns-clause-found c = (given_all Tree (λ n. read.expr n 0) (λ ts. Unit {0}) (λ ts. IsExpr ts 0) Spells expressions_exact _ view_expr c.all.result c.args.tokens.now tt c.all.ensures.reads).0

pub returns-clause-only : goal.returns-clause-only
returns-clause-only c = (given_all Tree (λ n. read.expr n 0) (λ ts. Unit {0}) (λ ts. IsExpr ts 0) Spells expressions_exact _ view_expr c.all.result c.args.tokens.now tt c.all.ensures.reads).1

pub returns-clause-fault : goal.returns-clause-fault
returns-clause-fault c = (given_all Tree (λ n. read.expr n 0) (λ ts. Unit {0}) (λ ts. IsExpr ts 0) Spells expressions_exact _ view_expr c.all.result c.args.tokens.now tt c.all.ensures.reads).2

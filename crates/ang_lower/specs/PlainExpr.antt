-- An expression of the core tree of the program without where it lies in memory.
use Rattle.std.specs.declared.boxed.Box.{Box}
use Rattle.std.specs.declared.alloc.Global.{Global}
use Rattle.ang_core.specs.declared.tree.CoreExpression.{CoreExpression, Row_of-CoreExpression, end_of-CoreExpression, more_of-CoreExpression}
use Rattle.ang_core.specs.declared.tree.CoreExpression.TheVariants.{Number, Null as Nothing, Local, Assign', Update', Apply', Call', Choose'}
use Rattle.ang_lower.specs.ExprTree as c

abbrev mutual
  pub plain_expr : CoreExpression → c.Expr
  plain_expr (Number n) = c.number n
  plain_expr Nothing = c.null
  plain_expr (Local i) = c.local i
  plain_expr (Assign' i p e) = c.assign i (plain_expr e)
  plain_expr (Update' i by p e) = c.change i by (plain_expr e)
  plain_expr (Apply' o shape args) = c.apply o (plain_row args)
  plain_expr (Call' f shape args outs) = c.call f (plain_row args) outs.value.items
  plain_expr (Choose' p a q b s d) = c.choose (plain_expr a) (plain_expr b) (plain_expr d)

  pub plain_row : {k : _} → Row_of-CoreExpression k → c.Exprs
  plain_row end_of-CoreExpression = c.none
  plain_row (more_of-CoreExpression e rest) = c.more (plain_expr e) (plain_row rest)

abbrev pub plain_tree : Box CoreExpression Global → c.Expr
plain_tree b = plain_expr b.value

-- A row of operands in a core tree, and the list of its items.
use Rattle.std.proofs.Common.{◌≡◌, refl, ap, ◌∙◌, map as list_map}
use Rattle.std.specs.declared.boxed.Box.{Box}
use Rattle.std.specs.declared.vec.Vec.{Vec}
use Rattle.std.specs.declared.alloc.Global.{Global}
use Rattle.ang_meaning.specs.declared.operation.Operation.{Operation}
use Rattle.ang_meaning.specs.declared.routine.Callee.{Callee}
use Rattle.ang_meaning.specs.declared.routine.Target.{Target}
use Rattle.ang_core.specs.declared.tree.CoreExpression.{CoreExpression, Row_of-CoreExpression, end_of-CoreExpression, more_of-CoreExpression, items-the_row-CoreExpression, items_hidden-the_row-CoreExpression-0}
use Rattle.ang_core.specs.declared.tree.CoreExpression.TheVariants.{Apply, Call}
use Rattle.ang_lower.specs.ExprTree as c
use Rattle.ang_lower.specs.PlainExpr.{plain_expr, plain_row}

row_is : {r : _} → (k : Row_of-CoreExpression r) → plain_row k ≡ c.exprs (list_map plain_expr (items-the_row-CoreExpression r k))
row_is end_of-CoreExpression = refl
row_is (more_of-CoreExpression e rest) = ap (c.more (plain_expr e)) (row_is rest)

operands_are : (v : Vec CoreExpression Global) → plain_row (Rattle.ang_core.specs.declared.tree.CoreExpression.TheBlock.hidden-the_row-CoreExpression-0 v) ≡ c.exprs (list_map plain_expr v.items)
operands_are v =
    row_is (Rattle.ang_core.specs.declared.tree.CoreExpression.TheBlock.hidden-the_row-CoreExpression-0 v)
    ∙ ap (λ l. c.exprs (list_map plain_expr l)) (items_hidden-the_row-CoreExpression-0 v)

pub applied : (o : Operation) (v : Vec CoreExpression Global) → plain_expr (Apply o v) ≡ c.apply o (c.exprs (list_map plain_expr v.items))
applied o v = ap (λ es. c.apply o es) (operands_are v)

pub called : (f : Callee) (v : Vec CoreExpression Global) (xs : Box (Vec Target Global) Global) → plain_expr (Call f v xs) ≡ c.call f (c.exprs (list_map plain_expr v.items)) xs.value.items
called f v xs = ap (λ es. c.call f es xs.value.items) (operands_are v)

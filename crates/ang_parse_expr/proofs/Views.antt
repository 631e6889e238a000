-- A list of arguments with one more at the end.
use Rattle.std.proofs.Common.{◌≡◌, List, [], ◌∷◌, ◌++◌, Option, refl, ap, sym, ◌∙◌}
use Rattle.ang_lex.specs.declared.token.Token.{Token}
use Rattle.std.specs.declared.boxed.Box.{Box}
use Rattle.std.specs.declared.alloc.Global.{Global}
use Rattle.ang_tree.specs.declared.expression.Expression.{Expression, fold-roll-Expression}
use Rattle.ang_tree.specs.declared.expression.Expression.TheVariants.{Conditional, rolls-Conditional}
use Rattle.ang_tree.specs.declared.expression.Expression.TheOpen.{Expression-F}
use Rattle.ang_tree.specs.declared.expression.Argument.{Argument, roll-Argument, fold-roll-Argument}
use Rattle.ang_tree.specs.Tree.{Tree, Args, more, added, conditional}
use Rattle.ang_tree.specs.View.{Item, expression_step, argument_step, arguments_step, view_expr, view_item, view_items}

pub view_items_push : (es : List Argument) (e : Argument) → view_items (es ++ e ∷ []) ≡ added (view_items es) (view_item e).0 (view_item e).1
view_items_push [] e = refl
view_items_push (d ∷ es) e = ap (more (view_item d).0 (view_item d).1) (view_items_push es e)

pub item_made : (comma : Option Token) (value : Expression) → view_item (roll-Argument record { comma = comma; value = value }) ≡ (comma, view_expr value)
item_made comma value = fold-roll-Argument Tree Item Args expression_step argument_step arguments_step (record { comma = comma; value = value })

pub view_items_made : (es : List Argument) (comma : Option Token) (value : Expression)
    → view_items (es ++ roll-Argument record { comma = comma; value = value } ∷ []) ≡ added (view_items es) comma (view_expr value)
view_items_made es comma value = view_items_push es (roll-Argument record { comma = comma; value = value }) ∙ ap (λ (i : Item). added (view_items es) i.0 i.1) (item_made comma value)

pub conditional_made : (c : Box Expression Global) (question : Token) (l : Box Expression Global) (colon : Token) (r : Box Expression Global)
    → view_expr (Conditional c question l colon r) ≡ conditional (view_expr c.value) question (view_expr l.value) colon (view_expr r.value)
conditional_made c question l colon r = ap view_expr (sym (rolls-Conditional c question l colon r)) ∙ fold-roll-Expression Tree Item Args expression_step argument_step arguments_step (Expression-F.Conditional c question l colon r)

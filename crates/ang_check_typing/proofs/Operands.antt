-- An expression of a kind is one of the variants of that kind.
use Rattle.std.proofs.Common.{◌≡◌, ◌≢◌, true, false, refl, sym, ap, ◌∙◌}
use Rattle.ang_lex.specs.declared.token.Token.{Token}
use Rattle.std.specs.declared.boxed.Box.{Box}
use Rattle.std.specs.declared.alloc.Global.{Global}
use Rattle.ang_tree.specs.declared.expression.Expression.{Expression, fold-roll-Expression}
use Rattle.ang_tree.specs.declared.expression.Expression.TheVariants as e
use Rattle.ang_tree.specs.declared.expression.Expression.TheOpen.{Expression-F}
use Rattle.ang_tree.specs.declared.expression.Arguments.{Arguments}
use Rattle.ang_tree.specs.declared.expression.CastTokens.{CastTokens}
use Rattle.ang_tree.specs.Tree.{Tree, Args}
use Rattle.ang_tree.specs.View.{Item, expression_step, argument_step, arguments_step, view_expr}
use Rattle.ang_check_typing.specs.Operands.{has_one_operand, has_two_operands, has_three_operands, is_of_object}

pub one_operand : (x : Expression) → has_one_operand (view_expr x) ≡ true
    → ((word left : Token) (a : Box Expression Global) (right : Token) → x ≢ e.Convert word left a right)
    → ((left : Token) (a : Box Expression Global) (right : Token) → x ≢ e.Parenthesized left a right)
    → ((a : Box Expression Global) (op : Token) → x ≢ e.Postfix a op)
    → ((op : Token) (a : Box Expression Global) → x ≢ e.Prefix op a) → ⊥
one_operand (e.Literal t) h c g p q =
    let no : true ≡ false = sym h ∙ ap has_one_operand (ap view_expr (sym (e.rolls-Literal t)) ∙ fold-roll-Expression Tree Item Args expression_step argument_step arguments_step (Expression-F.Literal t)) in cc
one_operand (e.Name t) h c g p q =
    let no : true ≡ false = sym h ∙ ap has_one_operand (ap view_expr (sym (e.rolls-Name t)) ∙ fold-roll-Expression Tree Item Args expression_step argument_step arguments_step (Expression-F.Name t)) in cc
one_operand (e.Call' x i a) h c g p q =
    let no : true ≡ false = sym h ∙ ap has_one_operand (ap view_expr (sym (e.rolls-Call x _)) ∙ fold-roll-Expression Tree Item Args expression_step argument_step arguments_step (Expression-F.Call x _)) in cc
one_operand (e.ScopedCall' w y x i a) h c g p q =
    let no : true ≡ false = sym h ∙ ap has_one_operand (ap view_expr (sym (e.rolls-ScopedCall w y x _)) ∙ fold-roll-Expression Tree Item Args expression_step argument_step arguments_step (Expression-F.ScopedCall w y x _)) in cc
one_operand (e.ScopedName w y x) h c g p q =
    let no : true ≡ false = sym h ∙ ap has_one_operand (ap view_expr (sym (e.rolls-ScopedName w y x)) ∙ fold-roll-Expression Tree Item Args expression_step argument_step arguments_step (Expression-F.ScopedName w y x)) in cc
one_operand (e.Cast' ts i a) h c g p q =
    let no : true ≡ false = sym h ∙ ap has_one_operand (ap view_expr (sym (e.rolls-Cast ts _)) ∙ fold-roll-Expression Tree Item Args expression_step argument_step arguments_step (Expression-F.Cast ts _)) in cc
one_operand (e.Convert' word left i a right) h c g p q = c word left _ right refl
one_operand (e.Parenthesized' left i a right) h c g p q = g left _ right refl
one_operand (e.Postfix' i a op) h c g p q = p _ op refl
one_operand (e.Member' i a dot x) h c g p q =
    let no : true ≡ false = sym h ∙ ap has_one_operand (ap view_expr (sym (e.rolls-Member _ dot x)) ∙ fold-roll-Expression Tree Item Args expression_step argument_step arguments_step (Expression-F.Member _ dot x)) in cc
one_operand (e.MethodCall' i a dot x j es) h c g p q =
    let no : true ≡ false = sym h ∙ ap has_one_operand (ap view_expr (sym (e.rolls-MethodCall _ dot x _)) ∙ fold-roll-Expression Tree Item Args expression_step argument_step arguments_step (Expression-F.MethodCall _ dot x _)) in cc
one_operand (e.Prefix' op i a) h c g p q = q op _ refl
one_operand (e.Binary' i l op j r) h c g p q =
    let no : true ≡ false = sym h ∙ ap has_one_operand (ap view_expr (sym (e.rolls-Binary _ op _)) ∙ fold-roll-Expression Tree Item Args expression_step argument_step arguments_step (Expression-F.Binary _ op _)) in cc
one_operand (e.Conditional' i a question j l colon k r) h c g p q =
    let no : true ≡ false = sym h ∙ ap has_one_operand (ap view_expr (sym (e.rolls-Conditional _ question _ colon _)) ∙ fold-roll-Expression Tree Item Args expression_step argument_step arguments_step (Expression-F.Conditional _ question _ colon _)) in cc
one_operand (e.Assignment' i l op j r) h c g p q =
    let no : true ≡ false = sym h ∙ ap has_one_operand (ap view_expr (sym (e.rolls-Assignment _ op _)) ∙ fold-roll-Expression Tree Item Args expression_step argument_step arguments_step (Expression-F.Assignment _ op _)) in cc

pub two_operands : (x : Expression) → has_two_operands (view_expr x) ≡ true
    → ((l : Box Expression Global) (op : Token) (r : Box Expression Global) → x ≢ e.Binary l op r)
    → ((l : Box Expression Global) (op : Token) (r : Box Expression Global) → x ≢ e.Assignment l op r) → ⊥
two_operands (e.Literal t) h b s =
    let no : true ≡ false = sym h ∙ ap has_two_operands (ap view_expr (sym (e.rolls-Literal t)) ∙ fold-roll-Expression Tree Item Args expression_step argument_step arguments_step (Expression-F.Literal t)) in cc
two_operands (e.Name t) h b s =
    let no : true ≡ false = sym h ∙ ap has_two_operands (ap view_expr (sym (e.rolls-Name t)) ∙ fold-roll-Expression Tree Item Args expression_step argument_step arguments_step (Expression-F.Name t)) in cc
two_operands (e.Call' x i a) h b s =
    let no : true ≡ false = sym h ∙ ap has_two_operands (ap view_expr (sym (e.rolls-Call x _)) ∙ fold-roll-Expression Tree Item Args expression_step argument_step arguments_step (Expression-F.Call x _)) in cc
two_operands (e.ScopedCall' w y x i a) h b s =
    let no : true ≡ false = sym h ∙ ap has_two_operands (ap view_expr (sym (e.rolls-ScopedCall w y x _)) ∙ fold-roll-Expression Tree Item Args expression_step argument_step arguments_step (Expression-F.ScopedCall w y x _)) in cc
two_operands (e.ScopedName w y x) h b s =
    let no : true ≡ false = sym h ∙ ap has_two_operands (ap view_expr (sym (e.rolls-ScopedName w y x)) ∙ fold-roll-Expression Tree Item Args expression_step argument_step arguments_step (Expression-F.ScopedName w y x)) in cc
two_operands (e.Cast' ts i a) h b s =
    let no : true ≡ false = sym h ∙ ap has_two_operands (ap view_expr (sym (e.rolls-Cast ts _)) ∙ fold-roll-Expression Tree Item Args expression_step argument_step arguments_step (Expression-F.Cast ts _)) in cc
two_operands (e.Convert' word left i a right) h b s =
    let no : true ≡ false = sym h ∙ ap has_two_operands (ap view_expr (sym (e.rolls-Convert word left _ right)) ∙ fold-roll-Expression Tree Item Args expression_step argument_step arguments_step (Expression-F.Convert word left _ right)) in cc
two_operands (e.Parenthesized' left i a right) h b s =
    let no : true ≡ false = sym h ∙ ap has_two_operands (ap view_expr (sym (e.rolls-Parenthesized left _ right)) ∙ fold-roll-Expression Tree Item Args expression_step argument_step arguments_step (Expression-F.Parenthesized left _ right)) in cc
two_operands (e.Postfix' i a op) h b s =
    let no : true ≡ false = sym h ∙ ap has_two_operands (ap view_expr (sym (e.rolls-Postfix _ op)) ∙ fold-roll-Expression Tree Item Args expression_step argument_step arguments_step (Expression-F.Postfix _ op)) in cc
two_operands (e.Member' i a dot x) h b s =
    let no : true ≡ false = sym h ∙ ap has_two_operands (ap view_expr (sym (e.rolls-Member _ dot x)) ∙ fold-roll-Expression Tree Item Args expression_step argument_step arguments_step (Expression-F.Member _ dot x)) in cc
two_operands (e.MethodCall' i a dot x j es) h b s =
    let no : true ≡ false = sym h ∙ ap has_two_operands (ap view_expr (sym (e.rolls-MethodCall _ dot x _)) ∙ fold-roll-Expression Tree Item Args expression_step argument_step arguments_step (Expression-F.MethodCall _ dot x _)) in cc
two_operands (e.Prefix' op i a) h b s =
    let no : true ≡ false = sym h ∙ ap has_two_operands (ap view_expr (sym (e.rolls-Prefix op _)) ∙ fold-roll-Expression Tree Item Args expression_step argument_step arguments_step (Expression-F.Prefix op _)) in cc
two_operands (e.Binary' i l op j r) h b s = b _ op _ refl
two_operands (e.Conditional' i a question j l colon k r) h b s =
    let no : true ≡ false = sym h ∙ ap has_two_operands (ap view_expr (sym (e.rolls-Conditional _ question _ colon _)) ∙ fold-roll-Expression Tree Item Args expression_step argument_step arguments_step (Expression-F.Conditional _ question _ colon _)) in cc
two_operands (e.Assignment' i l op j r) h b s = s _ op _ refl

pub three_operands : (x : Expression) → has_three_operands (view_expr x) ≡ true
    → ((a : Box Expression Global) (question : Token) (l : Box Expression Global) (colon : Token) (r : Box Expression Global) → x ≢ e.Conditional a question l colon r) → ⊥
three_operands (e.Literal t) h c =
    let no : true ≡ false = sym h ∙ ap has_three_operands (ap view_expr (sym (e.rolls-Literal t)) ∙ fold-roll-Expression Tree Item Args expression_step argument_step arguments_step (Expression-F.Literal t)) in cc
three_operands (e.Name t) h c =
    let no : true ≡ false = sym h ∙ ap has_three_operands (ap view_expr (sym (e.rolls-Name t)) ∙ fold-roll-Expression Tree Item Args expression_step argument_step arguments_step (Expression-F.Name t)) in cc
three_operands (e.Call' x i a) h c =
    let no : true ≡ false = sym h ∙ ap has_three_operands (ap view_expr (sym (e.rolls-Call x _)) ∙ fold-roll-Expression Tree Item Args expression_step argument_step arguments_step (Expression-F.Call x _)) in cc
three_operands (e.ScopedCall' w y x i a) h c =
    let no : true ≡ false = sym h ∙ ap has_three_operands (ap view_expr (sym (e.rolls-ScopedCall w y x _)) ∙ fold-roll-Expression Tree Item Args expression_step argument_step arguments_step (Expression-F.ScopedCall w y x _)) in cc
three_operands (e.ScopedName w y x) h c =
    let no : true ≡ false = sym h ∙ ap has_three_operands (ap view_expr (sym (e.rolls-ScopedName w y x)) ∙ fold-roll-Expression Tree Item Args expression_step argument_step arguments_step (Expression-F.ScopedName w y x)) in cc
three_operands (e.Cast' ts i a) h c =
    let no : true ≡ false = sym h ∙ ap has_three_operands (ap view_expr (sym (e.rolls-Cast ts _)) ∙ fold-roll-Expression Tree Item Args expression_step argument_step arguments_step (Expression-F.Cast ts _)) in cc
three_operands (e.Convert' word left i a right) h c =
    let no : true ≡ false = sym h ∙ ap has_three_operands (ap view_expr (sym (e.rolls-Convert word left _ right)) ∙ fold-roll-Expression Tree Item Args expression_step argument_step arguments_step (Expression-F.Convert word left _ right)) in cc
three_operands (e.Parenthesized' left i a right) h c =
    let no : true ≡ false = sym h ∙ ap has_three_operands (ap view_expr (sym (e.rolls-Parenthesized left _ right)) ∙ fold-roll-Expression Tree Item Args expression_step argument_step arguments_step (Expression-F.Parenthesized left _ right)) in cc
three_operands (e.Postfix' i a op) h c =
    let no : true ≡ false = sym h ∙ ap has_three_operands (ap view_expr (sym (e.rolls-Postfix _ op)) ∙ fold-roll-Expression Tree Item Args expression_step argument_step arguments_step (Expression-F.Postfix _ op)) in cc
three_operands (e.Member' i a dot x) h c =
    let no : true ≡ false = sym h ∙ ap has_three_operands (ap view_expr (sym (e.rolls-Member _ dot x)) ∙ fold-roll-Expression Tree Item Args expression_step argument_step arguments_step (Expression-F.Member _ dot x)) in cc
three_operands (e.MethodCall' i a dot x j es) h c =
    let no : true ≡ false = sym h ∙ ap has_three_operands (ap view_expr (sym (e.rolls-MethodCall _ dot x _)) ∙ fold-roll-Expression Tree Item Args expression_step argument_step arguments_step (Expression-F.MethodCall _ dot x _)) in cc
three_operands (e.Prefix' op i a) h c =
    let no : true ≡ false = sym h ∙ ap has_three_operands (ap view_expr (sym (e.rolls-Prefix op _)) ∙ fold-roll-Expression Tree Item Args expression_step argument_step arguments_step (Expression-F.Prefix op _)) in cc
three_operands (e.Binary' i l op j r) h c =
    let no : true ≡ false = sym h ∙ ap has_three_operands (ap view_expr (sym (e.rolls-Binary _ op _)) ∙ fold-roll-Expression Tree Item Args expression_step argument_step arguments_step (Expression-F.Binary _ op _)) in cc
three_operands (e.Conditional' i a question j l colon k r) h c = c _ question _ colon _ refl
three_operands (e.Assignment' i l op j r) h c =
    let no : true ≡ false = sym h ∙ ap has_three_operands (ap view_expr (sym (e.rolls-Assignment _ op _)) ∙ fold-roll-Expression Tree Item Args expression_step argument_step arguments_step (Expression-F.Assignment _ op _)) in cc

pub of_object : (x : Expression) → is_of_object (view_expr x) ≡ true
    → ((ts : Box CastTokens Global) (a : Box Expression Global) → x ≢ e.Cast ts a)
    → ((a : Box Expression Global) (dot x1 : Token) → x ≢ e.Member a dot x1)
    → ((a : Box Expression Global) (dot x1 : Token) (es : Box Arguments Global) → x ≢ e.MethodCall a dot x1 es) → ⊥
of_object (e.Literal t) h c m q =
    let no : true ≡ false = sym h ∙ ap is_of_object (ap view_expr (sym (e.rolls-Literal t)) ∙ fold-roll-Expression Tree Item Args expression_step argument_step arguments_step (Expression-F.Literal t)) in cc
of_object (e.Name t) h c m q =
    let no : true ≡ false = sym h ∙ ap is_of_object (ap view_expr (sym (e.rolls-Name t)) ∙ fold-roll-Expression Tree Item Args expression_step argument_step arguments_step (Expression-F.Name t)) in cc
of_object (e.Call' x i a) h c m q =
    let no : true ≡ false = sym h ∙ ap is_of_object (ap view_expr (sym (e.rolls-Call x _)) ∙ fold-roll-Expression Tree Item Args expression_step argument_step arguments_step (Expression-F.Call x _)) in cc
of_object (e.ScopedCall' w y x i a) h c m q =
    let no : true ≡ false = sym h ∙ ap is_of_object (ap view_expr (sym (e.rolls-ScopedCall w y x _)) ∙ fold-roll-Expression Tree Item Args expression_step argument_step arguments_step (Expression-F.ScopedCall w y x _)) in cc
of_object (e.ScopedName w y x) h c m q =
    let no : true ≡ false = sym h ∙ ap is_of_object (ap view_expr (sym (e.rolls-ScopedName w y x)) ∙ fold-roll-Expression Tree Item Args expression_step argument_step arguments_step (Expression-F.ScopedName w y x)) in cc
of_object (e.Cast' ts i a) h c m q = c ts _ refl
of_object (e.Convert' word left i a right) h c m q =
    let no : true ≡ false = sym h ∙ ap is_of_object (ap view_expr (sym (e.rolls-Convert word left _ right)) ∙ fold-roll-Expression Tree Item Args expression_step argument_step arguments_step (Expression-F.Convert word left _ right)) in cc
of_object (e.Parenthesized' left i a right) h c m q =
    let no : true ≡ false = sym h ∙ ap is_of_object (ap view_expr (sym (e.rolls-Parenthesized left _ right)) ∙ fold-roll-Expression Tree Item Args expression_step argument_step arguments_step (Expression-F.Parenthesized left _ right)) in cc
of_object (e.Postfix' i a op) h c m q =
    let no : true ≡ false = sym h ∙ ap is_of_object (ap view_expr (sym (e.rolls-Postfix _ op)) ∙ fold-roll-Expression Tree Item Args expression_step argument_step arguments_step (Expression-F.Postfix _ op)) in cc
of_object (e.Member' i a dot x) h c m q = m _ dot x refl
of_object (e.MethodCall' i a dot x j es) h c m q = q _ dot x _ refl
of_object (e.Prefix' op i a) h c m q =
    let no : true ≡ false = sym h ∙ ap is_of_object (ap view_expr (sym (e.rolls-Prefix op _)) ∙ fold-roll-Expression Tree Item Args expression_step argument_step arguments_step (Expression-F.Prefix op _)) in cc
of_object (e.Binary' i l op j r) h c m q =
    let no : true ≡ false = sym h ∙ ap is_of_object (ap view_expr (sym (e.rolls-Binary _ op _)) ∙ fold-roll-Expression Tree Item Args expression_step argument_step arguments_step (Expression-F.Binary _ op _)) in cc
of_object (e.Conditional' i a question j l colon k r) h c m q =
    let no : true ≡ false = sym h ∙ ap is_of_object (ap view_expr (sym (e.rolls-Conditional _ question _ colon _)) ∙ fold-roll-Expression Tree Item Args expression_step argument_step arguments_step (Expression-F.Conditional _ question _ colon _)) in cc
of_object (e.Assignment' i l op j r) h c m q =
    let no : true ≡ false = sym h ∙ ap is_of_object (ap view_expr (sym (e.rolls-Assignment _ op _)) ∙ fold-roll-Expression Tree Item Args expression_step argument_step arguments_step (Expression-F.Assignment _ op _)) in cc

-- The readers of variables look no further than they read.
use Rattle.std.proofs.Common.{ℕ, ◌≤◌, Bool, true, false, List, [], ◌∷◌, ◌++◌, Option, Some, None}
use Rattle.ang_lex.specs.declared.token.Token.{Token}
use Rattle.ang_lex.specs.declared.token.TokenKind.{TokenKind}
use Rattle.ang_lex.specs.declared.token.TokenKind.TheVariants as k
use Rattle.ang_kinds.specs.declared.primitive.Primitive.{Primitive}
use Rattle.ang_tree.specs.declared.type_name.TypeName.{TypeName}
use Rattle.ang_tree.specs.Kinds.{Is, type_kind}
use Rattle.ang_tree.specs.Tree.{Tree}
use Rattle.ang_tree.specs.Stmt.{absent, value, constructor, Var, with_variables, with_expression}
use Rattle.ang_parse_read.specs.Read.{Parser, pure, ◌>>=◌, Choice, look, repeat}
use Rattle.ang_parse_read.specs.Tokens.{a_token, perhaps, is_name, is_semicolon, is_const}
use Rattle.ang_parse_read.proofs.DependsOnPrefix.{DependsOnPrefix, Both, prefix_pure, prefix_bind, prefix_look, prefix_repeat}
use Rattle.ang_parse_read.proofs.Tokens.{a_token_prefix, perhaps_prefix}
use Rattle.ang_parse_expr.specs.ReadType.{handle_of, type_of, type_named}
use Rattle.ang_parse_expr.specs.ReadExpr.{expr, args}
use Rattle.ang_parse_expr.proofs.PrefixExpr.{type_named_prefix, expr_prefix, args_at_prefix, expr_named_prefix, expr_primitive_prefix}
use Rattle.ang_parse_stmt.specs.ReadVars as v
use Rattle.ang_parse_stmt.proofs.Choices.{BothAt, prefix_look_at}

module _ (b z : List Token) where
  abbrev T : {A : Type 0} → Parser A → Parser A → Type 0
  T p q = DependsOnPrefix b z p q

  abbrev bind : {A B : Type 0} (p q : Parser A) (f g : A → Parser B) → T p q → ((x : A) → T (f x) (g x)) → T (p >>= f) (q >>= g)
  bind = prefix_bind b z

  abbrev by_kind : {A : Type 0} (f g : TokenKind → Choice A) (p q : Parser A) → ((kind : TokenKind) → Both b z (f kind) (g kind)) → T p q → T (look f p) (look g q)
  by_kind = prefix_look b z

  abbrev unit : {A : Type 0} (x : A) → T (pure x) (pure x)
  unit = prefix_pure b z

  abbrev then_token : {B : Type 0} (test : TokenKind → Bool) (f g : Token → Parser B) → ((x : Token) → T (f x) (g x)) → T (a_token test >>= f) (a_token test >>= g)
  then_token test f g h = bind (a_token test) (a_token test) f g (a_token_prefix b z test) h

  module _ (m n : ℕ) (le : m ≤ n) where
    -- ---- variables

    valued_prefix : (equals : Token) → T (v.valued m equals) (v.valued n equals)
    unfolding v.valued
    valued_prefix equals = bind (expr m 0) (expr n 0) _ _ (expr_prefix b z m n 0 le) (λ e. unit (value equals e))

    constructed_prefix : (left : Token) → T (v.constructed m left) (v.constructed n left)
    unfolding v.constructed
    constructed_prefix left = bind (args (expr m) m left) (args (expr n) n left) _ _ (args_at_prefix b z m n le left) (λ es. unit (constructor es))

    init_by_prefix : (kind : TokenKind) → Both b z (v.init_by m kind) (v.init_by n kind)
    init_by_prefix k.Assign = valued_prefix
    init_by_prefix k.LeftParen = constructed_prefix
    init_by_prefix _ = tt

    pub init_prefix : T (v.init m) (v.init n)
    unfolding v.init
    init_prefix = by_kind (v.init_by m) (v.init_by n) (pure absent) (pure absent) init_by_prefix (unit absent)

    pub variable_named_prefix : (comma : Option Token) (x : Token) → T (v.variable_named m comma x) (v.variable_named n comma x)
    unfolding v.variable_named
    variable_named_prefix comma x = bind (v.init m) (v.init n) _ _ init_prefix (λ i. unit (v.variable_of comma x i))

    another_variable_prefix : (vs : List Var) (comma : Token) → T (v.another_variable m vs comma) (v.another_variable n vs comma)
    unfolding v.another_variable
    another_variable_prefix vs comma = then_token is_name _ _ (λ x. bind (v.variable_named m (Some comma) x) (v.variable_named n (Some comma) x) _ _ (variable_named_prefix (Some comma) x) (λ w. unit (vs ++ w ∷ [], true)))

    other_variable_by_prefix : (vs : List Var) (kind : TokenKind) → Both b z (v.other_variable_by m vs kind) (v.other_variable_by n vs kind)
    other_variable_by_prefix vs k.Comma = another_variable_prefix vs
    other_variable_by_prefix vs _ = tt

    other_variable_prefix : (vs : List Var) → T (v.other_variable m vs) (v.other_variable n vs)
    unfolding v.other_variable
    other_variable_prefix vs = by_kind (v.other_variable_by m vs) (v.other_variable_by n vs) _ _ (other_variable_by_prefix vs) (unit (vs, false))

    pub variables_behind_prefix : (y : TypeName) (w : Var) → T (v.variables_behind m y w) (v.variables_behind n y w)
    unfolding v.variables_behind
    variables_behind_prefix y w = bind (repeat (v.other_variable m) m (w ∷ [])) (repeat (v.other_variable n) n (w ∷ [])) _ _
        (prefix_repeat b z (v.other_variable m) (v.other_variable n) other_variable_prefix m n le (w ∷ []))
        (λ vs. then_token is_semicolon _ _ (λ semicolon. unit (v.variables_of y vs semicolon)))

    pub variables_named_prefix : (y : TypeName) (x : Token) → T (v.variables_named m y x) (v.variables_named n y x)
    unfolding v.variables_named
    variables_named_prefix y x = bind (v.variable_named m None x) (v.variable_named n None x) _ _ (variable_named_prefix None x) (variables_behind_prefix y)

    -- ---- vars | [ assign ] ";"

    ends_prefix : (e : Tree) → T {A = Option Tree × Token} (a_token is_semicolon >>= (λ semicolon. pure (Some e, semicolon))) (a_token is_semicolon >>= (λ semicolon. pure (Some e, semicolon)))
    ends_prefix e = then_token is_semicolon _ _ (λ semicolon. unit (Some e, semicolon))

    some_ended_prefix : T (v.some_ended m) (v.some_ended n)
    unfolding v.some_ended
    some_ended_prefix = bind (expr m 0) (expr n 0) _ _ (expr_prefix b z m n 0 le) ends_prefix

    ended_by_prefix : (kind : TokenKind) → Both b z (v.ended_by m kind) (v.ended_by n kind)
    ended_by_prefix k.Semicolon = λ semicolon. unit (None, semicolon)
    ended_by_prefix _ = tt

    pub ended_prefix : T (v.ended m) (v.ended n)
    unfolding v.ended
    ended_prefix = by_kind (v.ended_by m) (v.ended_by n) (v.some_ended m) (v.some_ended n) ended_by_prefix some_ended_prefix

    ran_prefix : T (v.ran m) (v.ran n)
    unfolding v.ran
    ran_prefix = bind (v.some_ended m) (v.some_ended n) _ _ some_ended_prefix (λ e. unit (with_expression e.0 e.1))

    -- an expression is read from a name on, which it takes
    ran_named_prefix : (x : Token) → Is k.Name x → T (λ ts. v.ran m (x ∷ ts)) (λ ts. v.ran n (x ∷ ts))
    unfolding v.ran v.some_ended
    ran_named_prefix x is = bind (λ ts. v.some_ended m (x ∷ ts)) (λ ts. v.some_ended n (x ∷ ts)) _ _
        (bind (λ ts. expr m 0 (x ∷ ts)) (λ ts. expr n 0 (x ∷ ts)) _ _ (expr_named_prefix b z m n x le is) ends_prefix)
        (λ e. unit (with_expression e.0 e.1))

    -- and from a primitive type and its left parenthesis on
    ran_primitive_prefix : (q : Primitive) (x left : Token) → Is (k.Primitive q) x → Is k.LeftParen left → T (λ ts. v.ran m (x ∷ left ∷ ts)) (λ ts. v.ran n (x ∷ left ∷ ts))
    unfolding v.ran v.some_ended
    ran_primitive_prefix q x left is l = bind (λ ts. v.some_ended m (x ∷ left ∷ ts)) (λ ts. v.some_ended n (x ∷ left ∷ ts)) _ _
        (bind (λ ts. expr m 0 (x ∷ left ∷ ts)) (λ ts. expr n 0 (x ∷ left ∷ ts)) _ _ (expr_primitive_prefix b z m n q x left le is l) ends_prefix)
        (λ e. unit (with_expression e.0 e.1))

    declared_prefix : (y : TypeName) (x : Token) → T (v.declared m y x) (v.declared n y x)
    unfolding v.declared
    declared_prefix y x = bind (v.variables_named m y x) (v.variables_named n y x) _ _ (variables_named_prefix y x) (λ vs. unit (with_variables vs))

    declared_of_prefix : (y : TypeName) → T (v.declared_of m y) (v.declared_of n y)
    unfolding v.declared_of
    declared_of_prefix y = then_token is_name (v.declared m y) (v.declared n y) (declared_prefix y)

    typed_prefix : (c : Option Token) (x : Token) → T (v.typed m c x) (v.typed n c x)
    unfolding v.typed
    typed_prefix c x = bind (type_named c x) (type_named c x) _ _ (type_named_prefix b z c x) declared_of_prefix

    constant_typed_prefix : (word : Token) → T (v.constant_typed m word) (v.constant_typed n word)
    unfolding v.constant_typed
    constant_typed_prefix word = then_token type_kind (v.typed m (Some word)) (v.typed n (Some word)) (typed_prefix (Some word))

    handled_prefix : (x sign : Token) → T (v.handled m x sign) (v.handled n x sign)
    unfolding v.handled
    handled_prefix x sign = bind (perhaps is_const) (perhaps is_const) _ _ (perhaps_prefix b z is_const) (λ c. declared_of_prefix (type_of None x (Some (handle_of sign c))))

    named_by_prefix : (x : Token) (kind : TokenKind) → Both b z (v.named_by m x kind) (v.named_by n x kind)
    named_by_prefix x k.At = handled_prefix x
    named_by_prefix x k.Name = declared_prefix (type_of None x None)
    named_by_prefix x _ = tt

    named_prefix : (x : Token) → Is k.Name x → T (v.named m x) (v.named n x)
    unfolding v.named
    named_prefix x is = by_kind (v.named_by m x) (v.named_by n x) (λ ts. v.ran m (x ∷ ts)) (λ ts. v.ran n (x ∷ ts)) (named_by_prefix x) (ran_named_prefix x is)

    primitive_by_prefix : (q : Primitive) (x : Token) → Is (k.Primitive q) x → (kind : TokenKind) → BothAt b z kind (v.primitive_by m x kind) (v.primitive_by n x kind)
    primitive_by_prefix q x is k.LeftParen = λ left l. ran_primitive_prefix q x left is l
    primitive_by_prefix q x is _ = tt

    primitive_prefix : (q : Primitive) (x : Token) → Is (k.Primitive q) x → T (v.primitive m x) (v.primitive n x)
    unfolding v.primitive
    primitive_prefix q x is = prefix_look_at b z (v.primitive_by m x) (v.primitive_by n x) (v.typed m None x) (v.typed n None x) (primitive_by_prefix q x is) (typed_prefix None x)

    start_by_prefix : (kind : TokenKind) → BothAt b z kind (v.start_by m kind) (v.start_by n kind)
    start_by_prefix k.Semicolon = λ semicolon is. unit (with_expression None semicolon)
    start_by_prefix k.Const = λ word is. constant_typed_prefix word
    start_by_prefix k.Void = λ x is. typed_prefix None x
    start_by_prefix k.Name = named_prefix
    start_by_prefix (k.Primitive q) = primitive_prefix q
    start_by_prefix _ = tt

    pub start_prefix : T (v.start m) (v.start n)
    unfolding v.start
    start_prefix = prefix_look_at b z (v.start_by m) (v.start_by n) (v.ran m) (v.ran n) start_by_prefix ran_prefix

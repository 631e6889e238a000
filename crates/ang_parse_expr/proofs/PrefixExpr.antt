-- The readers of types and expressions look no further than they read.
use Rattle.std.proofs.Common.{◌≡◌, ℕ, zero, suc, ◌+◌, ◌≤◌, Bool, true, false, List, ◌∷◌, Option, Some, None, ap, sym, subst, arith}
use Rattle.ang_lex.specs.declared.token.Token.{Token}
use Rattle.ang_lex.specs.declared.token.Span.{Span}
use Rattle.ang_kinds.specs.declared.place.Place.{Place}
use Rattle.ang_kinds.specs.declared.primitive.Primitive.{Primitive}
use Rattle.ang_lex.specs.declared.token.TokenKind.{TokenKind}
use Rattle.ang_lex.specs.declared.token.TokenKind.TheVariants as k
use Rattle.ang_tree.specs.Kinds.{Is, literal_kind, type_kind, prefix_kind, step_kind, assignment_kind, precedence}
use Rattle.ang_tree.specs.Tree.{Tree, Trees, literal, name, call, scoped_call, scoped_name, cast, convert, group, postfix, member, method_call, prefix, binary, conditional, assignment, arguments, none, more, added}
use Rattle.ang_parse_read.specs.Read.{Parser, pure, ◌>>=◌, refuse, Choice, given, look, Turn}
use Rattle.ang_parse_read.specs.Tokens.{a_token, perhaps, is_name, is_left_paren, is_right_paren, is_less, is_greater, is_colon, is_const}
use Rattle.ang_parse_read.proofs.DependsOnPrefix.{DependsOnPrefix, Both, both_given, prefix_pure, prefix_refuse, prefix_bind, prefix_look, prefix_repeat}
use Rattle.ang_parse_read.proofs.Tokens.{a_token_prefix, perhaps_prefix}
use Rattle.ang_parse_expr.specs.ReadType as y
use Rattle.ang_parse_expr.specs.ReadExpr as r

-- a token of this kind
abbrev pub token_of : TokenKind → Span → Place → Token
token_of kind span place = record { kind = kind; span = span; place = place }

pub token_is : (t : Token) (kind : TokenKind) → t.kind ≡ kind → t ≡ token_of kind t.span t.place
token_is t kind is = ap (λ v. token_of v t.span t.place) is

module _ (b z : List Token) where
  abbrev T : {A : Type 0} → Parser A → Parser A → Type 0
  T p q = DependsOnPrefix b z p q

  abbrev bind : {A B : Type 0} (p q : Parser A) (f g : A → Parser B) → T p q → ((x : A) → T (f x) (g x)) → T (p >>= f) (q >>= g)
  bind = prefix_bind b z

  abbrev by_kind : {A : Type 0} (f g : TokenKind → Choice A) (p q : Parser A) → ((kind : TokenKind) → Both b z (f kind) (g kind)) → T p q → T (look f p) (look g q)
  by_kind = prefix_look b z

  abbrev unit : {A : Type 0} (x : A) → T (pure x) (pure x)
  unit = prefix_pure b z

  abbrev then_token : {B : Type 0} (test : TokenKind → Bool) (f g : Token → Parser B) → ((x : Token) → T (f x) (g x)) → T (a_token test >>= f) (a_token test >>= g)
  then_token test f g h = bind (a_token test) (a_token test) f g (a_token_prefix b z test) h

  -- ---- types

  handle_by_prefix : (kind : TokenKind) → Both b z (y.handle_by kind) (y.handle_by kind)
  handle_by_prefix k.At = λ sign. bind (perhaps is_const) (perhaps is_const) _ _ (perhaps_prefix b z is_const) (λ c. unit (Some (y.handle_of sign c)))
  handle_by_prefix _ = tt

  pub a_handle_prefix : T y.a_handle y.a_handle
  unfolding y.a_handle
  a_handle_prefix = by_kind y.handle_by y.handle_by (pure None) (pure None) handle_by_prefix (unit None)

  pub type_named_prefix : (c : Option Token) (x : Token) → T (y.type_named c x) (y.type_named c x)
  unfolding y.type_named
  type_named_prefix c x = bind y.a_handle y.a_handle _ _ a_handle_prefix (λ h. unit (y.type_of c x h))

  pub a_type_prefix : T y.a_type y.a_type
  unfolding y.a_type
  a_type_prefix = bind (perhaps is_const) (perhaps is_const) _ _ (perhaps_prefix b z is_const) (λ c. then_token type_kind (y.type_named c) (y.type_named c) (λ x. type_named_prefix c x))

  -- ---- expressions

  module _ (e d : ℕ → Parser Tree) (m n : ℕ) (le : m ≤ n) (E : (least : ℕ) → T (e least) (d least)) where
    another_prefix : (es : Trees) (comma : Token) → T (r.another e m es comma) (r.another d n es comma)
    unfolding r.another
    another_prefix es comma = bind (e 0) (d 0) _ _ (E 0) (λ x. unit (added es (Some comma) x, true))

    others_by_prefix : (es : Trees) (kind : TokenKind) → Both b z (r.others_by e m es kind) (r.others_by d n es kind)
    others_by_prefix es k.Comma = another_prefix es
    others_by_prefix es _ = tt

    other_expression_prefix : (es : Trees) → T (r.other_expression e m es) (r.other_expression d n es)
    unfolding r.other_expression
    other_expression_prefix es = by_kind (r.others_by e m es) (r.others_by d n es) _ _ (others_by_prefix es) (unit (es, false))

    expressions_prefix : T (r.expressions e m) (r.expressions d n)
    unfolding r.expressions
    expressions_prefix = bind (e 0) (d 0) _ _ (E 0) (λ x. prefix_repeat b z (r.other_expression e m) (r.other_expression d n) other_expression_prefix m n le (more None x none))

    args_by_prefix : (left : Token) (kind : TokenKind) → Both b z (r.args_by e m left kind) (r.args_by d n left kind)
    args_by_prefix left k.RightParen = λ right. unit (arguments left none right)
    args_by_prefix left _ = tt

    some_args_prefix : (left : Token) → T (r.some_args e m left) (r.some_args d n left)
    unfolding r.some_args
    some_args_prefix left = bind (r.expressions e m) (r.expressions d n) _ _ expressions_prefix (λ es. then_token is_right_paren _ _ (λ right. unit (arguments left es right)))

    args_prefix : (left : Token) → T (r.args e m left) (r.args d n left)
    unfolding r.args
    args_prefix left = by_kind (r.args_by e m left) (r.args_by d n left) (r.some_args e m left) (r.some_args d n left) (args_by_prefix left) (some_args_prefix left)

    scoped_by_prefix : (c scope x : Token) (kind : TokenKind) → Both b z (r.scoped_by e m c scope x kind) (r.scoped_by d n c scope x kind)
    scoped_by_prefix c scope x k.LeftParen = λ left. bind (r.args e m left) (r.args d n left) _ _ (args_prefix left) (λ es. unit (scoped_call c scope x es))
    scoped_by_prefix c scope x _ = tt

    scoped_prefix : (c scope : Token) → T (r.scoped e m c scope) (r.scoped d n c scope)
    unfolding r.scoped
    scoped_prefix c scope = then_token is_name _ _ (λ x. by_kind (r.scoped_by e m c scope x) (r.scoped_by d n c scope x) _ _ (scoped_by_prefix c scope x) (unit (scoped_name c scope x)))

    named_by_prefix : (x : Token) (kind : TokenKind) → Both b z (r.named_by e m x kind) (r.named_by d n x kind)
    named_by_prefix x k.LeftParen = λ left. bind (r.args e m left) (r.args d n left) _ _ (args_prefix left) (λ es. unit (call x es))
    named_by_prefix x k.Scope = scoped_prefix x
    named_by_prefix x _ = tt

    named_prefix : (x : Token) → T (r.named e m x) (r.named d n x)
    unfolding r.named
    named_prefix x = by_kind (r.named_by e m x) (r.named_by d n x) _ _ (named_by_prefix x) (unit (name x))

    inside_prefix : T (r.inside e m) (r.inside d n)
    unfolding r.inside
    inside_prefix = bind (e 0) (d 0) _ _ (E 0) (λ x. then_token is_right_paren _ _ (λ right. unit (x, right)))

    converted_prefix : (p : Token) → T (r.converted e m p) (r.converted d n p)
    unfolding r.converted
    converted_prefix p = then_token is_left_paren _ _ (λ left. bind (r.inside e m) (r.inside d n) _ _ inside_prefix (λ i. unit (convert p left i.0 i.1)))

    casted_prefix : (word : Token) → T (r.casted e m word) (r.casted d n word)
    unfolding r.casted
    casted_prefix word = then_token is_less _ _ (λ less. bind y.a_type y.a_type _ _ a_type_prefix (λ type_read. then_token is_greater _ _ (λ greater. then_token is_left_paren _ _ (λ left.
        bind (r.inside e m) (r.inside d n) _ _ inside_prefix (λ i. unit (cast word less type_read greater left i.0 i.1))))))

    grouped_prefix : (left : Token) → T (r.grouped e m left) (r.grouped d n left)
    unfolding r.grouped
    grouped_prefix left = bind (r.inside e m) (r.inside d n) _ _ inside_prefix (λ i. unit (group left i.0 i.1))

    literal_prefix : (kind : TokenKind) → Both b z (given (literal_kind kind) (λ t. pure (literal t))) (given (literal_kind kind) (λ t. pure (literal t)))
    literal_prefix kind = both_given b z (literal_kind kind) (λ t. pure (literal t)) (λ t. pure (literal t)) (λ t. unit (literal t))

    primary_by_prefix : (kind : TokenKind) → Both b z (r.primary_by e m kind) (r.primary_by d n kind)
    primary_by_prefix k.Name = named_prefix
    primary_by_prefix k.Cast = casted_prefix
    primary_by_prefix (k.Primitive p) = converted_prefix
    primary_by_prefix k.LeftParen = grouped_prefix
    primary_by_prefix kind = literal_prefix kind

    primary_prefix : T (r.primary e m) (r.primary d n)
    unfolding r.primary
    primary_prefix = by_kind (r.primary_by e m) (r.primary_by d n) refuse refuse primary_by_prefix (prefix_refuse b z)

    membered_by_prefix : (x : Tree) (dot i : Token) (kind : TokenKind) → Both b z (r.membered_by e m x dot i kind) (r.membered_by d n x dot i kind)
    membered_by_prefix x dot i k.LeftParen = λ left. bind (r.args e m left) (r.args d n left) _ _ (args_prefix left) (λ es. unit (method_call x dot i es))
    membered_by_prefix x dot i _ = tt

    membered_prefix : (x : Tree) (dot : Token) → T (r.membered e m x dot) (r.membered d n x dot)
    unfolding r.membered
    membered_prefix x dot = then_token is_name _ _ (λ i. by_kind (r.membered_by e m x dot i) (r.membered_by d n x dot i) _ _ (membered_by_prefix x dot i) (unit (member x dot i)))

    abbrev stepped : Tree → Token → Turn Tree
    stepped x op = pure (postfix x op, true)

    step_prefix : (x : Tree) (kind : TokenKind) → Both b z (given (step_kind kind) (stepped x)) (given (step_kind kind) (stepped x))
    step_prefix x kind = both_given b z (step_kind kind) (stepped x) (stepped x) (λ op. unit (postfix x op, true))

    suffix_by_prefix : (x : Tree) (kind : TokenKind) → Both b z (r.suffix_by e m x kind) (r.suffix_by d n x kind)
    suffix_by_prefix x k.Dot = λ dot. bind (r.membered e m x dot) (r.membered d n x dot) _ _ (membered_prefix x dot) (λ y. unit (y, true))
    suffix_by_prefix x kind = step_prefix x kind

    suffix_prefix : (x : Tree) → T (r.suffix e m x) (r.suffix d n x)
    unfolding r.suffix
    suffix_prefix x = by_kind (r.suffix_by e m x) (r.suffix_by d n x) _ _ (suffix_by_prefix x) (unit (x, false))

    post_prefix : T (r.post e m) (r.post d n)
    unfolding r.post
    post_prefix = bind (r.primary e m) (r.primary d n) _ _ primary_prefix (prefix_repeat b z (r.suffix e m) (r.suffix d n) suffix_prefix m n le)

    unary_by_prefix : (kind : TokenKind) → Both b z (r.unary_by e m kind) (r.unary_by d n kind)
    unary_by_prefix kind = both_given b z (prefix_kind kind) (λ op. e 11 >>= (λ x. pure (prefix op x))) (λ op. d 11 >>= (λ x. pure (prefix op x))) (λ op. bind (e 11) (d 11) _ _ (E 11) (λ x. unit (prefix op x)))

    unary_prefix : T (r.unary e m) (r.unary d n)
    unfolding r.unary
    unary_prefix = by_kind (r.unary_by e m) (r.unary_by d n) (r.post e m) (r.post d n) unary_by_prefix post_prefix

    operated_prefix : (x : Tree) (op : Token) → T (r.operated e m x op) (r.operated d n x op)
    unfolding r.operated
    operated_prefix x op = bind (e (precedence op.kind + 1)) (d (precedence op.kind + 1)) _ _ (E (precedence op.kind + 1)) (λ y. unit (binary x op y, true))

    operation_by_prefix : (least : ℕ) (x : Tree) (kind : TokenKind) → Both b z (r.operation_by e m least x kind) (r.operation_by d n least x kind)
    operation_by_prefix least x kind = both_given b z (r.binds least (precedence kind)) (r.operated e m x) (r.operated d n x) (operated_prefix x)

    operation_prefix : (least : ℕ) (x : Tree) → T (r.operation e m least x) (r.operation d n least x)
    unfolding r.operation
    operation_prefix least x = by_kind (r.operation_by e m least x) (r.operation_by d n least x) _ _ (operation_by_prefix least x) (unit (x, false))

    branches_prefix : T (r.branches e m) (r.branches d n)
    unfolding r.branches
    branches_prefix = bind (e 0) (d 0) _ _ (E 0) (λ x. then_token is_colon _ _ (λ colon. bind (e 0) (d 0) _ _ (E 0) (λ y. unit (x, colon, y))))

    conditioned_prefix : (c : Tree) (question : Token) → T (r.conditioned e m c question) (r.conditioned d n c question)
    unfolding r.conditioned
    conditioned_prefix c question = bind (r.branches e m) (r.branches d n) _ _ branches_prefix (λ v. unit (conditional c question v.0 v.1 v.2))

    assigned_prefix : (c : Tree) (op : Token) → T (r.assigned e m c op) (r.assigned d n c op)
    unfolding r.assigned
    assigned_prefix c op = bind (e 0) (d 0) _ _ (E 0) (λ y. unit (assignment c op y))

    assignment_prefix : (c : Tree) (kind : TokenKind) → Both b z (given (assignment_kind kind) (r.assigned e m c)) (given (assignment_kind kind) (r.assigned d n c))
    assignment_prefix c kind = both_given b z (assignment_kind kind) (r.assigned e m c) (r.assigned d n c) (assigned_prefix c)

    tail_by_prefix : (c : Tree) (kind : TokenKind) → Both b z (r.tail_by e m c kind) (r.tail_by d n c kind)
    tail_by_prefix c k.Question = conditioned_prefix c
    tail_by_prefix c kind = assignment_prefix c kind

    tail_prefix : (c : Tree) → T (r.tail e m c) (r.tail d n c)
    unfolding r.tail
    tail_prefix c = by_kind (r.tail_by e m c) (r.tail_by d n c) _ _ (tail_by_prefix c) (unit c)

    tail_at_prefix : (least : ℕ) (c : Tree) → T (r.tail_at e m least c) (r.tail_at d n least c)
    tail_at_prefix zero c = tail_prefix c
    tail_at_prefix (suc l) c = unit c

    level_prefix : (least : ℕ) → T (r.level e m least) (r.level d n least)
    unfolding r.level r.term
    level_prefix least = bind (r.term e m least) (r.term d n least) _ _
        (bind (r.unary e m) (r.unary d n) _ _ unary_prefix (prefix_repeat b z (r.operation e m least) (r.operation d n least) (operation_prefix least) m n le))
        (tail_at_prefix least)

    -- ---- the same, after first tokens that are taken anyway

    level_name_prefix : (s : Span) (p : Place) → T (λ ts. r.level e m 0 (token_of k.Name s p ∷ ts)) (λ ts. r.level d n 0 (token_of k.Name s p ∷ ts))
    unfolding r.level r.term r.unary r.post r.primary
    level_name_prefix s p =
        let x = token_of k.Name s p in
        bind (λ ts. r.term e m 0 (x ∷ ts)) (λ ts. r.term d n 0 (x ∷ ts)) _ _
        (bind (λ ts. r.unary e m (x ∷ ts)) (λ ts. r.unary d n (x ∷ ts)) _ _
        (bind (r.named e m x) (r.named d n x) _ _ (named_prefix x) (prefix_repeat b z (r.suffix e m) (r.suffix d n) suffix_prefix m n le))
        (prefix_repeat b z (r.operation e m 0) (r.operation d n 0) (operation_prefix 0) m n le))
        (tail_at_prefix 0)

    level_primitive_prefix : (q : Primitive) (s : Span) (p : Place) (s' : Span) (p' : Place)
        → T (λ ts. r.level e m 0 (token_of (k.Primitive q) s p ∷ token_of k.LeftParen s' p' ∷ ts)) (λ ts. r.level d n 0 (token_of (k.Primitive q) s p ∷ token_of k.LeftParen s' p' ∷ ts))
    unfolding r.level r.term r.unary r.post r.primary r.converted a_token
    level_primitive_prefix q s p s' p' =
        let x = token_of (k.Primitive q) s p in
        let left = token_of k.LeftParen s' p' in
        bind (λ ts. r.term e m 0 (x ∷ left ∷ ts)) (λ ts. r.term d n 0 (x ∷ left ∷ ts)) _ _
        (bind (λ ts. r.unary e m (x ∷ left ∷ ts)) (λ ts. r.unary d n (x ∷ left ∷ ts)) _ _
        (bind (r.inside e m >>= (λ i. pure (convert x left i.0 i.1))) (r.inside d n >>= (λ i. pure (convert x left i.0 i.1))) _ _
        (bind (r.inside e m) (r.inside d n) _ _ inside_prefix (λ i. unit (convert x left i.0 i.1)))
        (prefix_repeat b z (r.suffix e m) (r.suffix d n) suffix_prefix m n le))
        (prefix_repeat b z (r.operation e m 0) (r.operation d n 0) (operation_prefix 0) m n le))
        (tail_at_prefix 0)

  pub expr_prefix : (m n least : ℕ) → m ≤ n → T (r.expr m least) (r.expr n least)
  unfolding r.expr
  expr_prefix zero n least le = record { common = λ c f. tt; past = λ s h. tt; same = λ s. tt }
  expr_prefix (suc m) zero least le = absurd (omega arith)
  expr_prefix (suc m) (suc n) least le = level_prefix (r.expr m) (r.expr n) m n (omega arith) (λ l. expr_prefix m n l (omega arith)) least

  pub args_at_prefix : (m n : ℕ) → m ≤ n → (left : Token) → T (r.args (r.expr m) m left) (r.args (r.expr n) n left)
  args_at_prefix m n le left = args_prefix (r.expr m) (r.expr n) m n le (λ l. expr_prefix m n l le) left

  pub expressions_at_prefix : (m n : ℕ) → m ≤ n → T (r.expressions (r.expr m) m) (r.expressions (r.expr n) n)
  expressions_at_prefix m n le = expressions_prefix (r.expr m) (r.expr n) m n le (λ l. expr_prefix m n l le)

  name_prefix : (m n : ℕ) (s : Span) (p : Place) → m ≤ n → T (λ ts. r.expr m 0 (token_of k.Name s p ∷ ts)) (λ ts. r.expr n 0 (token_of k.Name s p ∷ ts))
  unfolding r.expr
  name_prefix zero n s p le = record { common = λ c f. tt; past = λ s h. tt; same = λ s. tt }
  name_prefix (suc m) zero s p le = absurd (omega arith)
  name_prefix (suc m) (suc n) s p le = level_name_prefix (r.expr m) (r.expr n) m n (omega arith) (λ l. expr_prefix m n l (omega arith)) s p

  primitive_prefix : (m n : ℕ) (q : Primitive) (s : Span) (p : Place) (s' : Span) (p' : Place) → m ≤ n
      → T (λ ts. r.expr m 0 (token_of (k.Primitive q) s p ∷ token_of k.LeftParen s' p' ∷ ts)) (λ ts. r.expr n 0 (token_of (k.Primitive q) s p ∷ token_of k.LeftParen s' p' ∷ ts))
  unfolding r.expr
  primitive_prefix zero n q s p s' p' le = record { common = λ c f. tt; past = λ s h. tt; same = λ s. tt }
  primitive_prefix (suc m) zero q s p s' p' le = absurd (omega arith)
  primitive_prefix (suc m) (suc n) q s p s' p' le = level_primitive_prefix (r.expr m) (r.expr n) m n (omega arith) (λ l. expr_prefix m n l (omega arith)) q s p s' p'

  -- from a name on
  pub expr_named_prefix : (m n : ℕ) (x : Token) → m ≤ n → Is k.Name x → T (λ ts. r.expr m 0 (x ∷ ts)) (λ ts. r.expr n 0 (x ∷ ts))
  expr_named_prefix m n x le is = subst (λ v. T (λ ts. r.expr m 0 (v ∷ ts)) (λ ts. r.expr n 0 (v ∷ ts))) (sym (token_is x k.Name is)) (name_prefix m n x.span x.place le)

  -- from a primitive type and its left parenthesis on
  pub expr_primitive_prefix : (m n : ℕ) (q : Primitive) (x left : Token) → m ≤ n → Is (k.Primitive q) x → Is k.LeftParen left
      → T (λ ts. r.expr m 0 (x ∷ left ∷ ts)) (λ ts. r.expr n 0 (x ∷ left ∷ ts))
  expr_primitive_prefix m n q x left le is l =
      subst (λ v. T (λ ts. r.expr m 0 (v ∷ left ∷ ts)) (λ ts. r.expr n 0 (v ∷ left ∷ ts))) (sym (token_is x (k.Primitive q) is))
      (subst (λ v. T (λ ts. r.expr m 0 (token_of (k.Primitive q) x.span x.place ∷ v ∷ ts)) (λ ts. r.expr n 0 (token_of (k.Primitive q) x.span x.place ∷ v ∷ ts))) (sym (token_is left k.LeftParen l))
      (primitive_prefix m n q x.span x.place left.span left.place le))

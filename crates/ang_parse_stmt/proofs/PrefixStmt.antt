-- The readers of statements look no further than they read.
use Rattle.std.proofs.Common.{ℕ, zero, suc, ◌≤◌, Bool, true, false, List, Some, None, arith}
use Rattle.ang_lex.specs.declared.token.Token.{Token}
use Rattle.ang_lex.specs.declared.token.TokenKind.{TokenKind}
use Rattle.ang_lex.specs.declared.token.TokenKind.TheVariants as k
use Rattle.ang_tree.specs.Tree.{none}
use Rattle.ang_tree.specs.Stmt.{Stmt, Stmts, block, break, continue, return, body, end, added_stmt}
use Rattle.ang_parse_read.specs.Read.{Parser, pure, ◌>>=◌, Choice, look}
use Rattle.ang_parse_read.specs.Tokens.{a_token, is_semicolon, is_left_paren, is_right_paren, is_right_brace, is_while}
use Rattle.ang_parse_read.proofs.DependsOnPrefix.{DependsOnPrefix, Both, prefix_pure, prefix_bind, prefix_look, prefix_repeat}
use Rattle.ang_parse_read.proofs.Tokens.{a_token_prefix}
use Rattle.ang_parse_expr.specs.ReadExpr.{expr, expressions}
use Rattle.ang_parse_expr.proofs.PrefixExpr.{expr_prefix, expressions_at_prefix}
use Rattle.ang_parse_stmt.specs.ReadVars as v
use Rattle.ang_parse_stmt.specs.ReadStmt as r
use Rattle.ang_parse_stmt.proofs.Ahead.{prefix_ahead}
use Rattle.ang_parse_stmt.proofs.PrefixVars.{ended_prefix, start_prefix}

module _ (b z : List Token) where
  abbrev T : {A : Type 0} → Parser A → Parser A → Type 0
  T p q = DependsOnPrefix b z p q

  abbrev bind : {A B : Type 0} (p q : Parser A) (f g : A → Parser B) → T p q → ((x : A) → T (f x) (g x)) → T (p >>= f) (q >>= g)
  bind = prefix_bind b z

  abbrev by_kind : {A : Type 0} (f g : TokenKind → Choice A) (p q : Parser A) → ((kind : TokenKind) → Both b z (f kind) (g kind)) → T p q → T (look f p) (look g q)
  by_kind = prefix_look b z

  abbrev unit : {A : Type 0} (x : A) → T (pure x) (pure x)
  unit = prefix_pure b z

  abbrev then_token : {B : Type 0} (test : TokenKind → Bool) (f g : Token → Parser B) → ((x : Token) → T (f x) (g x)) → T (a_token test >>= f) (a_token test >>= g)
  then_token test f g h = bind (a_token test) (a_token test) f g (a_token_prefix b z test) h

  module _ (m n : ℕ) (le : m ≤ n) where
    -- ---- the parts of statements

    condition_prefix : T (r.condition m) (r.condition n)
    unfolding r.condition
    condition_prefix = then_token is_left_paren _ _ (λ left. bind (expr m 0) (expr n 0) _ _ (expr_prefix b z m n 0 le) (λ c. then_token is_right_paren _ _ (λ right. unit (r.condition_of left c right))))

    ending_prefix : T (r.ending m) (r.ending n)
    unfolding r.ending
    ending_prefix = then_token is_while _ _ (λ word. bind (r.condition m) (r.condition n) _ _ condition_prefix (λ c. then_token is_semicolon _ _ (λ semicolon. unit (r.ending_of word c semicolon))))

    steps_by_prefix : (kind : TokenKind) → Both b z (r.steps_by m kind) (r.steps_by n kind)
    steps_by_prefix k.RightParen = λ right. unit (none, right)
    steps_by_prefix _ = tt

    some_steps_prefix : T (r.some_steps m) (r.some_steps n)
    unfolding r.some_steps
    some_steps_prefix = bind (expressions (expr m) m) (expressions (expr n) n) _ _ (expressions_at_prefix b z m n le) (λ es. then_token is_right_paren _ _ (λ right. unit (es, right)))

    steps_prefix : T (r.steps m) (r.steps n)
    unfolding r.steps
    steps_prefix = by_kind (r.steps_by m) (r.steps_by n) (r.some_steps m) (r.some_steps n) steps_by_prefix some_steps_prefix

    head_prefix : T (r.head m) (r.head n)
    unfolding r.head
    head_prefix = then_token is_left_paren _ _ (λ left. bind (v.start m) (v.start n) _ _ (start_prefix b z m n le) (λ s. bind (v.ended m) (v.ended n) _ _ (ended_prefix b z m n le) (λ c. bind (r.steps m) (r.steps n) _ _ steps_prefix (λ es. unit (r.head_of left s c es)))))

    simple_prefix : T (r.simple m) (r.simple n)
    unfolding r.simple
    simple_prefix = bind (v.start m) (v.start n) _ _ (start_prefix b z m n le) (λ s. unit (r.simple_of s))

    broken_prefix : (word : Token) → T (r.broken word) (r.broken word)
    unfolding r.broken
    broken_prefix word = then_token is_semicolon _ _ (λ semicolon. unit (break word semicolon))

    continued_prefix : (word : Token) → T (r.continued word) (r.continued word)
    unfolding r.continued
    continued_prefix word = then_token is_semicolon _ _ (λ semicolon. unit (continue word semicolon))

    returned_prefix : (word : Token) → T (r.returned m word) (r.returned n word)
    unfolding r.returned
    returned_prefix word = bind (v.ended m) (v.ended n) _ _ (ended_prefix b z m n le) (λ e. unit (return word e.0 e.1))

    -- ---- statements

    module _ (s u : Parser Stmt) (S : T s u) where
      next_statement_prefix : (ss : Stmts) → T (r.next_statement s m ss) (r.next_statement u n ss)
      unfolding r.next_statement
      next_statement_prefix ss = bind s u _ _ S (λ x. unit (added_stmt ss x, true))

      other_statement_prefix : (ss : Stmts) → T (r.other_statement s m ss) (r.other_statement u n ss)
      unfolding r.other_statement
      other_statement_prefix ss = prefix_ahead b z is_right_brace _ _ (r.next_statement s m ss) (r.next_statement u n ss) (unit (ss, false)) (next_statement_prefix ss)

      statements_prefix : T (r.statements s m) (r.statements u n)
      unfolding r.statements
      statements_prefix = prefix_repeat b z (r.other_statement s m) (r.other_statement u n) other_statement_prefix m n le end

      body_prefix : (left : Token) → T (r.a_body s m left) (r.a_body u n left)
      unfolding r.a_body
      body_prefix left = bind (r.statements s m) (r.statements u n) _ _ statements_prefix (λ ss. then_token is_right_brace _ _ (λ right. unit (body left ss right)))

      braced_prefix : (left : Token) → T (r.braced s m left) (r.braced u n left)
      unfolding r.braced
      braced_prefix left = bind (r.a_body s m left) (r.a_body u n left) _ _ (body_prefix left) (λ x. unit (block x))

      guarded_prefix : T (r.guarded s m) (r.guarded u n)
      unfolding r.guarded
      guarded_prefix = bind (r.condition m) (r.condition n) _ _ condition_prefix (λ c. bind s u _ _ S (λ x. unit (r.guarded_of c x)))

      other_branch_prefix : (word : Token) → T (r.other_branch s m word) (r.other_branch u n word)
      unfolding r.other_branch
      other_branch_prefix word = bind s u _ _ S (λ x. unit (Some (word, x)))

      otherwise_by_prefix : (kind : TokenKind) → Both b z (r.otherwise_by s m kind) (r.otherwise_by u n kind)
      otherwise_by_prefix k.Else = other_branch_prefix
      otherwise_by_prefix _ = tt

      otherwise_prefix : T (r.otherwise s m) (r.otherwise u n)
      unfolding r.otherwise
      otherwise_prefix = by_kind (r.otherwise_by s m) (r.otherwise_by u n) _ _ otherwise_by_prefix (unit None)

      conditional_prefix : (word : Token) → T (r.conditional s m word) (r.conditional u n word)
      unfolding r.conditional
      conditional_prefix word = bind (r.guarded s m) (r.guarded u n) _ _ guarded_prefix (λ g. bind (r.otherwise s m) (r.otherwise u n) _ _ otherwise_prefix (λ o. unit (r.branched word g o)))

      while_loop_prefix : (word : Token) → T (r.while_loop s m word) (r.while_loop u n word)
      unfolding r.while_loop
      while_loop_prefix word = bind (r.guarded s m) (r.guarded u n) _ _ guarded_prefix (λ g. unit (r.while_of word g))

      do_loop_prefix : (word : Token) → T (r.do_loop s m word) (r.do_loop u n word)
      unfolding r.do_loop
      do_loop_prefix word = bind s u _ _ S (λ x. bind (r.ending m) (r.ending n) _ _ ending_prefix (λ e. unit (r.do_while_of word x e)))

      for_loop_prefix : (word : Token) → T (r.for_loop s m word) (r.for_loop u n word)
      unfolding r.for_loop
      for_loop_prefix word = bind (r.head m) (r.head n) _ _ head_prefix (λ h. bind s u _ _ S (λ x. unit (r.for_of word h x)))

      statement_by_prefix : (kind : TokenKind) → Both b z (r.statement_by s m kind) (r.statement_by u n kind)
      statement_by_prefix k.LeftBrace = braced_prefix
      statement_by_prefix k.If = conditional_prefix
      statement_by_prefix k.While = while_loop_prefix
      statement_by_prefix k.Do = do_loop_prefix
      statement_by_prefix k.For = for_loop_prefix
      statement_by_prefix k.Break = broken_prefix
      statement_by_prefix k.Continue = continued_prefix
      statement_by_prefix k.Return = returned_prefix
      statement_by_prefix _ = tt

      statement_prefix : T (r.statement s m) (r.statement u n)
      unfolding r.statement
      statement_prefix = by_kind (r.statement_by s m) (r.statement_by u n) (r.simple m) (r.simple n) statement_by_prefix simple_prefix

    pub stmt_prefix : (i j : ℕ) → i ≤ j → T (r.stmt i m) (r.stmt j n)
    unfolding r.stmt
    stmt_prefix zero j h = record { common = λ c f. tt; past = λ s d. tt; same = λ s. tt }
    stmt_prefix (suc i) zero h = absurd (omega arith)
    stmt_prefix (suc i) (suc j) h = statement_prefix (r.stmt i m) (r.stmt j n) (stmt_prefix i j (omega arith))

    pub statements_at_prefix : (i j : ℕ) → i ≤ j → T (r.statements (r.stmt i m) m) (r.statements (r.stmt j n) n)
    statements_at_prefix i j h = statements_prefix (r.stmt i m) (r.stmt j n) (stmt_prefix i j h)

    pub body_at_prefix : (i j : ℕ) → i ≤ j → (left : Token) → T (r.a_body (r.stmt i m) m left) (r.a_body (r.stmt j n) n left)
    body_at_prefix i j h left = body_prefix (r.stmt i m) (r.stmt j n) (stmt_prefix i j h) left

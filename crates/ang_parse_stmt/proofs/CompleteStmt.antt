-- What is spelled as a statement is read.
use Rattle.std.proofs.Common.{◌≡◌, ℕ, zero, suc, ◌<◌, ◌≤◌, Bool, true, false, List, [], ◌∷◌, length, Option, Some, None, Ok, refl, ap, ◌∙◌, arith}
use Rattle.ang_lex.specs.declared.token.Token.{Token}
use Rattle.ang_lex.specs.declared.token.TokenKind.{TokenKind}
use Rattle.ang_lex.specs.declared.token.TokenKind.TheVariants as k
use Rattle.ang_tree.specs.Kinds.{Is, IsA, IfWritten, optional, type_kind}
use Rattle.ang_tree.specs.Tree.{Tree, Trees, none, more, spelled, listed, Fits, AllFit}
use Rattle.ang_tree.specs.View.{Branch}
use Rattle.ang_tree.specs.Stmt.{Vars, Start, with_variables, with_expression, Stmt, Body, Stmts, block, variables, expression, break, continue, return, when, either, while, do_while, for, body, end, then, added_stmt, spelled_option, spelled_start, spelled_stmt, spelled_stmts, open_if, FitsOption, FitsStart, FitsStmt, FitsBody, FitsStmts}
use Rattle.ang_parse_read.specs.Read.{Parser, and_then, pure, repeat}
use Rattle.ang_parse_read.specs.Tokens.{is_left_paren, is_right_paren, is_right_brace, is_semicolon, is_while}
use Rattle.ang_parse_read.proofs.Tokens.{begins, look_is, look_at, a_token_is}
use Rattle.ang_parse_read.proofs.Loops.{repeat_stops, repeat_goes_on}
use Rattle.ang_parse_expr.specs.ReadExpr.{expr, expressions}
use Rattle.ang_parse_expr.proofs.Sound.{spelled-length, listed-length}
use Rattle.ang_parse_expr.proofs.Grip.{starter_kind, First, starts, passed}
use Rattle.ang_parse_expr.proofs.Complete.{expressions_complete, ends_at_right}
use Rattle.ang_parse_expr.proofs.Exactly.{listed-size}
use Rattle.ang_parse_stmt.specs.ReadVars.{ended, start}
use Rattle.ang_parse_stmt.specs.ReadStmt as r
use Rattle.ang_parse_stmt.proofs.Ahead.{ahead_is, ahead_not}
use Rattle.ang_parse_stmt.proofs.VariableLengths.{option-length, start-length}
use Rattle.ang_parse_stmt.proofs.Lengths.{stmt-length}
use Rattle.ang_parse_stmt.proofs.SoundStmt.{is_else, Closed}
use Rattle.ang_parse_stmt.proofs.CompleteVars.{expression_read, low_at, start_read, ended_read}

-- ---- the first token

-- what begins variables, or what may stand where they may
abbrev simple_kind : TokenKind → Bool
simple_kind k.Semicolon = true
simple_kind k.Const = true
simple_kind k.Void = true
simple_kind kind = starter_kind kind

-- what begins a statement
abbrev pub stmt_kind : TokenKind → Bool
stmt_kind k.LeftBrace = true
stmt_kind k.If = true
stmt_kind k.While = true
stmt_kind k.Do = true
stmt_kind k.For = true
stmt_kind k.Break = true
stmt_kind k.Continue = true
stmt_kind k.Return = true
stmt_kind kind = simple_kind kind

starter_simple : (kind : TokenKind) → starter_kind kind ≡ true → simple_kind kind ≡ true
starter_simple k.Semicolon h = refl
starter_simple k.Const h = refl
starter_simple k.Void h = refl
starter_simple _ h = h

type_simple : (kind : TokenKind) → type_kind kind ≡ true → simple_kind kind ≡ true
type_simple (k.Primitive p) h = refl
type_simple k.Void h = refl
type_simple k.Name h = refl
type_simple _ h = absurd cc

simple_stmt : (kind : TokenKind) → simple_kind kind ≡ true → stmt_kind kind ≡ true
simple_stmt k.LeftBrace h = refl
simple_stmt k.If h = refl
simple_stmt k.While h = refl
simple_stmt k.Do h = refl
simple_stmt k.For h = refl
simple_stmt k.Break h = refl
simple_stmt k.Continue h = refl
simple_stmt k.Return h = refl
simple_stmt _ h = h

first_at : (test : TokenKind → Bool) (t : Token) (u : List Token) → test t.kind ≡ true → First test (t ∷ u)
first_at test t u h = record { token = t; rest = u; is = refl; kind = h }

widened : (test other : TokenKind → Bool) (ts : List Token) → ((kind : TokenKind) → test kind ≡ true → other kind ≡ true) → First test ts → First other ts
widened test other ts w h = record { token = h.token; rest = h.rest; is = h.is; kind = w h.token.kind h.kind }

first_not : (test other : TokenKind → Bool) (ts : List Token) → ((kind : TokenKind) → test kind ≡ true → other kind ≡ false) → First test ts → begins other ts ≡ false
first_not test other ts w h = ap (begins other) h.is ∙ w h.token.kind h.kind

type_first : (c : Option Token) (n : Token) (u : List Token) → IfWritten k.Const c → IsA type_kind n → First simple_kind (optional c (n ∷ u))
type_first None n u C N = first_at simple_kind n u (type_simple n.kind N)
type_first (Some word) n u C N = first_at simple_kind word (n ∷ u) (ap simple_kind C)

start_first : (b : Start) (ts : List Token) → FitsStart b → First simple_kind (spelled_start b ts)
start_first (with_variables vs) ts f = type_first vs.declared_type.constant vs.declared_type.name _ f.of_type.0 f.of_type.1
start_first (with_expression None semicolon) ts f = first_at simple_kind semicolon ts (ap simple_kind f.1)
start_first (with_expression (Some e) semicolon) ts f = widened starter_kind simple_kind (spelled e (semicolon ∷ ts)) starter_simple (starts e (semicolon ∷ ts) f.0)

simple_first : (b : Start) (ts : List Token) → FitsStart b → First stmt_kind (spelled_start b ts)
simple_first b ts f = widened simple_kind stmt_kind (spelled_start b ts) simple_stmt (start_first b ts f)

pub stmt_first : (x : Stmt) (ts : List Token) → FitsStmt x → First stmt_kind (spelled_stmt x ts)
stmt_first (block (body left ss right)) ts f = first_at stmt_kind left _ (ap stmt_kind f.0)
stmt_first (variables vs) ts f = simple_first (with_variables vs) ts f
stmt_first (expression e semicolon) ts f = simple_first (with_expression e semicolon) ts f
stmt_first (break word semicolon) ts f = first_at stmt_kind word _ (ap stmt_kind f.0)
stmt_first (continue word semicolon) ts f = first_at stmt_kind word _ (ap stmt_kind f.0)
stmt_first (return word e semicolon) ts f = first_at stmt_kind word _ (ap stmt_kind f.0)
stmt_first (when word left c right x) ts f = first_at stmt_kind word _ (ap stmt_kind f.0)
stmt_first (either word left c right x otherwise y) ts f = first_at stmt_kind word _ (ap stmt_kind f.0)
stmt_first (while word left c right x) ts f = first_at stmt_kind word _ (ap stmt_kind f.0)
stmt_first (do_while word x again left c right semicolon) ts f = first_at stmt_kind word _ (ap stmt_kind f.0)
stmt_first (for word left b c semicolon steps right x) ts f = first_at stmt_kind word _ (ap stmt_kind f.0)

no_right_brace : (kind : TokenKind) → stmt_kind kind ≡ true → is_right_brace kind ≡ false
no_right_brace k.RightBrace h = absurd cc
no_right_brace _ h = refl

no_else : (kind : TokenKind) → stmt_kind kind ≡ true → is_else kind ≡ false
no_else k.Else h = absurd cc
no_else _ h = refl

stmts_no_else : (ss : Stmts) (right : Token) (ts : List Token) → FitsStmts ss → Is k.RightBrace right → begins is_else (spelled_stmts ss (right ∷ ts)) ≡ false
stmts_no_else end right ts f is = ap is_else is
stmts_no_else (then x ss) right ts f is = first_not stmt_kind is_else (spelled_stmt x (spelled_stmts ss (right ∷ ts))) no_else (stmt_first x (spelled_stmts ss (right ∷ ts)) f.0)

-- ---- the parts

module _ (l : ℕ) where
  condition_read : (left : Token) (c : Tree) (right : Token) (ts : List Token) → Is k.LeftParen left → Fits c → Is k.RightParen right → length (spelled c (right ∷ ts)) < l
      → r.condition l (left ∷ spelled c (right ∷ ts)) ≡ Ok (r.condition_of left c right, ts)
  unfolding r.condition
  condition_read left c right ts L f R le =
      rw (a_token_is is_left_paren left (spelled c (right ∷ ts)) (ap is_left_paren L), expression_read c l (right ∷ ts) f le (low_at k.RightParen right ts R (omega arith)), a_token_is is_right_paren right ts (ap is_right_paren R)) refl

  ending_done : (word : Token) (c : r.Condition) (semicolon : Token) (ts us : List Token) → Is k.While word → Is k.Semicolon semicolon → r.condition l ts ≡ Ok (c, semicolon ∷ us)
      → r.ending l (word ∷ ts) ≡ Ok (r.ending_of word c semicolon, us)
  unfolding r.ending
  ending_done word c semicolon ts us W S h = rw (a_token_is is_while word ts (ap is_while W), h, a_token_is is_semicolon semicolon us (ap is_semicolon S)) refl

  steps_passes : (kind : TokenKind) → starter_kind kind ≡ true → r.steps_by l kind ≡ None
  steps_passes k.RightParen h = absurd cc
  steps_passes _ h = refl

  some_steps_done : (es : Trees) (right : Token) (ts us : List Token) → Is k.RightParen right → expressions (expr l) l ts ≡ Ok (es, right ∷ us) → r.some_steps l ts ≡ Ok ((es, right), us)
  unfolding r.some_steps
  some_steps_done es right ts us is h = rw (h, a_token_is is_right_paren right us (ap is_right_paren is)) refl

  steps_read : (es : Trees) (right : Token) (ts : List Token) → AllFit es → Is k.RightParen right → length (listed es (right ∷ ts)) < l → r.steps l (listed es (right ∷ ts)) ≡ Ok ((es, right), ts)
  unfolding r.steps
  steps_read none right ts f is le = look_is (r.steps_by l) (r.some_steps l) k.RightParen right ts is
  steps_read (more None e es) right ts f is le =
      let all = listed (more None e es) (right ∷ ts) in
      passed starter_kind (r.steps_by l) (r.some_steps l) all (starts e (listed es (right ∷ ts)) f.1) steps_passes
      ∙ some_steps_done (more None e es) right all ts is (expressions_complete None e es l (right ∷ ts) f (omega (arith, listed-size (more None e es) (right ∷ ts) f)) (ends_at_right right ts is))
  steps_read (more (Some comma) e es) right ts f is le = let e : Some comma ≡ None = f.0 in absurd cc

  head_done : (left : Token) (b : Start) (c : Option Tree × Token) (es : Trees × Token) (ts u v us : List Token) → Is k.LeftParen left → start l ts ≡ Ok (b, u) → ended l u ≡ Ok (c, v) → r.steps l v ≡ Ok (es, us)
      → r.head l (left ∷ ts) ≡ Ok (r.head_of left b c es, us)
  unfolding r.head
  head_done left b c es ts u v us L hb hc hs = rw (a_token_is is_left_paren left ts (ap is_left_paren L), hb, hc, hs) refl

  head_read : (left : Token) (b : Start) (c : Option Tree) (semicolon : Token) (es : Trees) (right : Token) (ts : List Token)
      → Is k.LeftParen left → FitsStart b → FitsOption c → Is k.Semicolon semicolon → AllFit es → Is k.RightParen right
      → length (spelled_start b (spelled_option c (semicolon ∷ listed es (right ∷ ts)))) < l
      → r.head l (left ∷ spelled_start b (spelled_option c (semicolon ∷ listed es (right ∷ ts)))) ≡ Ok (r.head_of left b (c, semicolon) (es, right), ts)
  head_read left b c semicolon es right ts L B C S E R le =
      let v = listed es (right ∷ ts) in
      let u = spelled_option c (semicolon ∷ v) in
      let m : length u < length (spelled_start b u) = start-length b u in
      let q : length (semicolon ∷ v) ≤ length u = option-length c (semicolon ∷ v) in
      head_done left b (c, semicolon) (es, right) (spelled_start b u) u v ts L (start_read l b u B le) (ended_read l c semicolon v C S (omega arith)) (steps_read es right ts E R (omega arith))

  simple_done : (b : Start) (ts us : List Token) → start l ts ≡ Ok (b, us) → r.simple l ts ≡ Ok (r.simple_of b, us)
  unfolding r.simple
  simple_done b ts us h = ap (λ v. and_then v (λ b. pure (r.simple_of b))) h

  broken_done : (word semicolon : Token) (ts : List Token) → Is k.Semicolon semicolon → r.broken word (semicolon ∷ ts) ≡ Ok (break word semicolon, ts)
  unfolding r.broken
  broken_done word semicolon ts is = ap (λ v. and_then v (λ semicolon. pure (break word semicolon))) (a_token_is is_semicolon semicolon ts (ap is_semicolon is))

  continued_done : (word semicolon : Token) (ts : List Token) → Is k.Semicolon semicolon → r.continued word (semicolon ∷ ts) ≡ Ok (continue word semicolon, ts)
  unfolding r.continued
  continued_done word semicolon ts is = ap (λ v. and_then v (λ semicolon. pure (continue word semicolon))) (a_token_is is_semicolon semicolon ts (ap is_semicolon is))

  returned_done : (word : Token) (e : Option Tree) (semicolon : Token) (ts us : List Token) → ended l ts ≡ Ok ((e, semicolon), us) → r.returned l word ts ≡ Ok (return word e semicolon, us)
  unfolding r.returned
  returned_done word e semicolon ts us h = ap (λ v. and_then v (λ e. pure (return word e.0 e.1))) h

module _ (s : Parser Stmt) (l : ℕ) where
  statement_at : (kind : TokenKind) (p : Token → Parser Stmt) (t : Token) (ts : List Token) → r.statement_by s l kind ≡ Some p → t.kind ≡ kind → r.statement s l (t ∷ ts) ≡ p t ts
  unfolding r.statement
  statement_at kind p t ts h is = look_at (r.statement_by s l) (r.simple l) (Some p) t ts (ap (r.statement_by s l) is ∙ h)

  statement_passes : (kind : TokenKind) → simple_kind kind ≡ true → r.statement_by s l kind ≡ None
  statement_passes k.LeftBrace h = absurd cc
  statement_passes k.If h = absurd cc
  statement_passes k.While h = absurd cc
  statement_passes k.Do h = absurd cc
  statement_passes k.For h = absurd cc
  statement_passes k.Break h = absurd cc
  statement_passes k.Continue h = absurd cc
  statement_passes k.Return h = absurd cc
  statement_passes _ h = refl

  simple_read : (b : Start) (ts : List Token) → FitsStart b → length (spelled_start b ts) < l → r.statement s l (spelled_start b ts) ≡ Ok (r.simple_of b, ts)
  unfolding r.statement
  simple_read b ts f le = passed simple_kind (r.statement_by s l) (r.simple l) (spelled_start b ts) (start_first b ts f) statement_passes ∙ simple_done l b (spelled_start b ts) ts (start_read l b ts f le)

  guarded_done : (c : r.Condition) (x : Stmt) (ts u us : List Token) → r.condition l ts ≡ Ok (c, u) → s u ≡ Ok (x, us) → r.guarded s l ts ≡ Ok (r.guarded_of c x, us)
  unfolding r.guarded
  guarded_done c x ts u us hc hx = rw (hc, hx) refl

  otherwise_passes : (kind : TokenKind) → is_else kind ≡ false → r.otherwise_by s l kind ≡ None
  otherwise_passes k.Else h = absurd cc
  otherwise_passes _ h = refl

  otherwise_none : (ts : List Token) → begins is_else ts ≡ false → r.otherwise s l ts ≡ Ok (None, ts)
  unfolding r.otherwise
  otherwise_none [] h = refl
  otherwise_none (t ∷ u) h = look_at (r.otherwise_by s l) (pure None) None t u (otherwise_passes t.kind h)

  otherwise_some : (word : Token) (x : Stmt) (ts us : List Token) → Is k.Else word → s ts ≡ Ok (x, us) → r.otherwise s l (word ∷ ts) ≡ Ok (Some (word, x), us)
  unfolding r.otherwise r.other_branch
  otherwise_some word x ts us is h = look_is (r.otherwise_by s l) (pure None) k.Else word ts is ∙ ap (λ v. and_then v (λ s. pure (Some (word, s)))) h

  conditional_done : (word : Token) (g : r.Guarded) (o : Option Branch) (ts u us : List Token) → r.guarded s l ts ≡ Ok (g, u) → r.otherwise s l u ≡ Ok (o, us) → r.conditional s l word ts ≡ Ok (r.branched word g o, us)
  unfolding r.conditional
  conditional_done word g o ts u us hg ho = rw (hg, ho) refl

  while_done : (word : Token) (g : r.Guarded) (ts us : List Token) → r.guarded s l ts ≡ Ok (g, us) → r.while_loop s l word ts ≡ Ok (r.while_of word g, us)
  unfolding r.while_loop
  while_done word g ts us h = ap (λ v. and_then v (λ g. pure (r.while_of word g))) h

  do_done : (word : Token) (x : Stmt) (e : r.Ending) (ts u us : List Token) → s ts ≡ Ok (x, u) → r.ending l u ≡ Ok (e, us) → r.do_loop s l word ts ≡ Ok (r.do_while_of word x e, us)
  unfolding r.do_loop
  do_done word x e ts u us hx he = rw (hx, he) refl

  for_done : (word : Token) (h : r.Head) (x : Stmt) (ts u us : List Token) → r.head l ts ≡ Ok (h, u) → s u ≡ Ok (x, us) → r.for_loop s l word ts ≡ Ok (r.for_of word h x, us)
  unfolding r.for_loop
  for_done word h x ts u us hh hx = rw (hh, hx) refl

  other_stops : (us : Stmts) (right : Token) (ts : List Token) → Is k.RightBrace right → r.other_statement s l us (right ∷ ts) ≡ Ok ((us, false), right ∷ ts)
  unfolding r.other_statement
  other_stops us right ts is = ahead_is is_right_brace (pure (us, false)) (r.next_statement s l us) right ts (ap is_right_brace is)

  next_done : (us : Stmts) (x : Stmt) (ts rest : List Token) → begins is_right_brace ts ≡ false → s ts ≡ Ok (x, rest) → r.other_statement s l us ts ≡ Ok ((added_stmt us x, true), rest)
  unfolding r.other_statement r.next_statement
  next_done us x ts rest b h = ahead_not is_right_brace (pure (us, false)) (r.next_statement s l us) ts b ∙ ap (λ v. and_then v (λ s. pure (added_stmt us s, true))) h

  body_done : (left right : Token) (ss : Stmts) (ts us : List Token) → Is k.RightBrace right → r.statements s l ts ≡ Ok (ss, right ∷ us) → r.a_body s l left ts ≡ Ok (body left ss right, us)
  unfolding r.a_body
  body_done left right ss ts us is h = rw (h, a_token_is is_right_brace right us (ap is_right_brace is)) refl

  braced_done : (left : Token) (b : Body) (ts us : List Token) → r.a_body s l left ts ≡ Ok (b, us) → r.braced s l left ts ≡ Ok (block b, us)
  unfolding r.braced
  braced_done left b ts us h = ap (λ v. and_then v (λ b. pure (block b))) h

-- ---- statements

abbrev pub CompleteStmt : Stmt → Type 0
CompleteStmt x = (n l : ℕ) (ts : List Token) → FitsStmt x → length (spelled_stmt x ts) ≤ n → length (spelled_stmt x ts) < l → Closed x ts → r.stmt (suc n) l (spelled_stmt x ts) ≡ Ok (x, ts)

inner : (x : Stmt) → CompleteStmt x → (n l : ℕ) (ts : List Token) → FitsStmt x → length (spelled_stmt x ts) < n → length (spelled_stmt x ts) < l → Closed x ts → r.stmt n l (spelled_stmt x ts) ≡ Ok (x, ts)
inner x c zero l ts f lt le h = absurd (omega arith)
inner x c (suc n) l ts f lt le h = c n l ts f (omega arith) le h

complete_variables : (vs : Vars) → CompleteStmt (variables vs)
unfolding r.stmt
complete_variables vs n l ts f lt le h = simple_read (r.stmt n l) l (with_variables vs) ts f le

complete_expression : (e : Option Tree) (semicolon : Token) → CompleteStmt (expression e semicolon)
unfolding r.stmt
complete_expression e semicolon n l ts f lt le h = simple_read (r.stmt n l) l (with_expression e semicolon) ts f le

complete_break : (word semicolon : Token) → CompleteStmt (break word semicolon)
unfolding r.stmt
complete_break word semicolon n l ts f lt le h = statement_at (r.stmt n l) l k.Break r.broken word (semicolon ∷ ts) refl f.0 ∙ broken_done l word semicolon ts f.1

complete_continue : (word semicolon : Token) → CompleteStmt (continue word semicolon)
unfolding r.stmt
complete_continue word semicolon n l ts f lt le h = statement_at (r.stmt n l) l k.Continue r.continued word (semicolon ∷ ts) refl f.0 ∙ continued_done l word semicolon ts f.1

complete_return : (word : Token) (e : Option Tree) (semicolon : Token) → CompleteStmt (return word e semicolon)
unfolding r.stmt
complete_return word e semicolon n l ts f lt le h =
    let rest = spelled_option e (semicolon ∷ ts) in
    statement_at (r.stmt n l) l k.Return (r.returned l) word rest refl f.0 ∙ returned_done l word e semicolon rest ts (ended_read l e semicolon ts f.1 f.2 (omega arith))

-- "(" assign ")" stmt
guarded_read : (n l : ℕ) (left : Token) (c : Tree) (right : Token) (x : Stmt) (ts : List Token) → CompleteStmt x → Is k.LeftParen left → Fits c → Is k.RightParen right → FitsStmt x
    → length (spelled c (right ∷ spelled_stmt x ts)) < n → length (spelled c (right ∷ spelled_stmt x ts)) < l → Closed x ts
    → r.guarded (r.stmt n l) l (left ∷ spelled c (right ∷ spelled_stmt x ts)) ≡ Ok (r.guarded_of (r.condition_of left c right) x, ts)
guarded_read n l left c right x ts p L C R f lt le h =
    let u = spelled_stmt x ts in
    let m : length (right ∷ u) < length (spelled c (right ∷ u)) = spelled-length c (right ∷ u) in
    guarded_done (r.stmt n l) l (r.condition_of left c right) x (left ∷ spelled c (right ∷ u)) u ts (condition_read l left c right u L C R le) (inner x p n l ts f (omega arith) (omega arith) h)

complete_when : (word left : Token) (c : Tree) (right : Token) (x : Stmt) → CompleteStmt x → CompleteStmt (when word left c right x)
unfolding r.stmt
complete_when word left c right x p n l ts f lt le h =
    let rest = left ∷ spelled c (right ∷ spelled_stmt x ts) in
    statement_at (r.stmt n l) l k.If (r.conditional (r.stmt n l) l) word rest refl f.0
    ∙ conditional_done (r.stmt n l) l word (r.guarded_of (r.condition_of left c right) x) None rest ts ts
    (guarded_read n l left c right x ts p f.1 f.2 f.3 f.4 (omega arith) (omega arith) (λ e. h refl))
    (otherwise_none (r.stmt n l) l ts (h refl))

shut : (x : Stmt) (ts : List Token) → open_if x ≡ false → Closed x ts
shut x ts h = λ e. absurd cc

complete_either : (word left : Token) (c : Tree) (right : Token) (x : Stmt) (otherwise : Token) (y : Stmt) → CompleteStmt x → CompleteStmt y → CompleteStmt (either word left c right x otherwise y)
unfolding r.stmt
complete_either word left c right x otherwise y p q n l ts f lt le h =
    let v = spelled_stmt y ts in
    let u = spelled_stmt x (otherwise ∷ v) in
    let rest = left ∷ spelled c (right ∷ u) in
    let m : length (right ∷ u) < length (spelled c (right ∷ u)) = spelled-length c (right ∷ u) in
    let o : length (otherwise ∷ v) < length u = stmt-length x (otherwise ∷ v) in
    statement_at (r.stmt n l) l k.If (r.conditional (r.stmt n l) l) word rest refl f.0
    ∙ conditional_done (r.stmt n l) l word (r.guarded_of (r.condition_of left c right) x) (Some (otherwise, y)) rest (otherwise ∷ v) ts
    (guarded_read n l left c right x (otherwise ∷ v) p f.1 f.2 f.3 f.4 (omega arith) (omega arith) (shut x (otherwise ∷ v) f.5))
    (otherwise_some (r.stmt n l) l otherwise y v ts f.6 (inner y q n l ts f.7 (omega arith) (omega arith) h))

complete_while : (word left : Token) (c : Tree) (right : Token) (x : Stmt) → CompleteStmt x → CompleteStmt (while word left c right x)
unfolding r.stmt
complete_while word left c right x p n l ts f lt le h =
    let rest = left ∷ spelled c (right ∷ spelled_stmt x ts) in
    statement_at (r.stmt n l) l k.While (r.while_loop (r.stmt n l) l) word rest refl f.0
    ∙ while_done (r.stmt n l) l word (r.guarded_of (r.condition_of left c right) x) rest ts (guarded_read n l left c right x ts p f.1 f.2 f.3 f.4 (omega arith) (omega arith) h)

complete_do : (word : Token) (x : Stmt) (again left : Token) (c : Tree) (right semicolon : Token) → CompleteStmt x → CompleteStmt (do_while word x again left c right semicolon)
unfolding r.stmt
complete_do word x again left c right semicolon p n l ts f lt le h =
    let v = left ∷ spelled c (right ∷ semicolon ∷ ts) in
    let u = again ∷ v in
    let m : length u < length (spelled_stmt x u) = stmt-length x u in
    statement_at (r.stmt n l) l k.Do (r.do_loop (r.stmt n l) l) word (spelled_stmt x u) refl f.0
    ∙ do_done (r.stmt n l) l word x (r.ending_of again (r.condition_of left c right) semicolon) (spelled_stmt x u) u ts
    (inner x p n l u f.1 (omega arith) (omega arith) (λ e. ap is_else f.2))
    (ending_done l again (r.condition_of left c right) semicolon v ts f.2 f.6 (condition_read l left c right (semicolon ∷ ts) f.3 f.4 f.5 (omega arith)))

complete_for : (word left : Token) (b : Start) (c : Option Tree) (semicolon : Token) (steps : Trees) (right : Token) (x : Stmt) → CompleteStmt x → CompleteStmt (for word left b c semicolon steps right x)
unfolding r.stmt
complete_for word left b c semicolon steps right x p n l ts f lt le h =
    let u = spelled_stmt x ts in
    let v = listed steps (right ∷ u) in
    let w = spelled_option c (semicolon ∷ v) in
    let m1 : length w < length (spelled_start b w) = start-length b w in
    let m2 : length (semicolon ∷ v) ≤ length w = option-length c (semicolon ∷ v) in
    let m3 : length (right ∷ u) ≤ length v = listed-length steps (right ∷ u) in
    statement_at (r.stmt n l) l k.For (r.for_loop (r.stmt n l) l) word (left ∷ spelled_start b w) refl f.0
    ∙ for_done (r.stmt n l) l word (r.head_of left b (c, semicolon) (steps, right)) x (left ∷ spelled_start b w) u ts
    (head_read l left b c semicolon steps right u f.1 f.2 f.3 f.4 f.5 f.6 (omega arith))
    (inner x p n l ts f.7 (omega arith) (omega arith) h)

-- ---- lists of statements

abbrev joined : Stmts → Stmts → Stmts
joined us end = us
joined us (then x ss) = joined (added_stmt us x) ss

joined-then : (x : Stmt) (us ss : Stmts) → joined (then x us) ss ≡ then x (joined us ss)
joined-then x us end = refl
joined-then x us (then y ss) = joined-then x (added_stmt us y) ss

joined-end : (ss : Stmts) → joined end ss ≡ ss
joined-end end = refl
joined-end (then x ss) = joined-then x end ss ∙ ap (then x) (joined-end ss)

abbrev pub AllStmts : Stmts → Type 0
AllStmts ss = (n l j : ℕ) (us : Stmts) (right : Token) (ts : List Token) → FitsStmts ss → Is k.RightBrace right
    → length (spelled_stmts ss (right ∷ ts)) < n → length (spelled_stmts ss (right ∷ ts)) < l → length (spelled_stmts ss (right ∷ ts)) < j
    → repeat (r.other_statement (r.stmt n l) l) j us (spelled_stmts ss (right ∷ ts)) ≡ Ok (joined us ss, right ∷ ts)

all_end : AllStmts end
all_end n l j us right ts f is a b d = repeat_stops (r.other_statement (r.stmt n l) l) us j (right ∷ ts) (omega arith) (other_stops (r.stmt n l) l us right ts is)

all_then : (x : Stmt) (ss : Stmts) → CompleteStmt x → AllStmts ss → AllStmts (then x ss)
all_then x ss c all n l zero us right ts f is a b d = absurd (omega arith)
all_then x ss c all n l (suc j) us right ts f is a b d =
    let rest = spelled_stmts ss (right ∷ ts) in
    let m : length rest < length (spelled_stmt x rest) = stmt-length x rest in
    repeat_goes_on (r.other_statement (r.stmt n l) l) us (added_stmt us x) j (spelled_stmt x rest) rest
    (next_done (r.stmt n l) l us x (spelled_stmt x rest) rest (first_not stmt_kind is_right_brace (spelled_stmt x rest) no_right_brace (stmt_first x rest f.0))
    (inner x c n l rest f.0 (omega arith) (omega arith) (λ e. stmts_no_else ss right ts f.1 is)))
    ∙ all n l j (added_stmt us x) right ts f.1 is (omega arith) (omega arith) (omega arith)

all_read : (ss : Stmts) → AllStmts ss → (n l : ℕ) (right : Token) (ts : List Token) → FitsStmts ss → Is k.RightBrace right
    → length (spelled_stmts ss (right ∷ ts)) < n → length (spelled_stmts ss (right ∷ ts)) < l → r.statements (r.stmt n l) l (spelled_stmts ss (right ∷ ts)) ≡ Ok (ss, right ∷ ts)
unfolding r.statements
all_read ss all n l right ts f is a b = all n l l end right ts f is a b b ∙ ap (λ v. Ok (v, right ∷ ts)) (joined-end ss)

complete_block : (left : Token) (ss : Stmts) (right : Token) → AllStmts ss → CompleteStmt (block (body left ss right))
unfolding r.stmt
complete_block left ss right all n l ts f lt le h =
    let rest = spelled_stmts ss (right ∷ ts) in
    statement_at (r.stmt n l) l k.LeftBrace (r.braced (r.stmt n l) l) left rest refl f.0
    ∙ braced_done (r.stmt n l) l left (body left ss right) rest ts (body_done (r.stmt n l) l left right ss rest ts f.2 (all_read ss all n l right ts f.1 f.2 (omega arith) (omega arith)))

mutual
  pub complete_stmt : (x : Stmt) → CompleteStmt x
  complete_stmt (block (body left ss right)) = complete_block left ss right (complete_stmts ss)
  complete_stmt (variables vs) = complete_variables vs
  complete_stmt (expression e semicolon) = complete_expression e semicolon
  complete_stmt (break word semicolon) = complete_break word semicolon
  complete_stmt (continue word semicolon) = complete_continue word semicolon
  complete_stmt (return word e semicolon) = complete_return word e semicolon
  complete_stmt (when word left c right x) = complete_when word left c right x (complete_stmt x)
  complete_stmt (either word left c right x otherwise y) = complete_either word left c right x otherwise y (complete_stmt x) (complete_stmt y)
  complete_stmt (while word left c right x) = complete_while word left c right x (complete_stmt x)
  complete_stmt (do_while word x again left c right semicolon) = complete_do word x again left c right semicolon (complete_stmt x)
  complete_stmt (for word left b c semicolon steps right x) = complete_for word left b c semicolon steps right x (complete_stmt x)

  pub complete_stmts : (ss : Stmts) → AllStmts ss
  complete_stmts end = all_end
  complete_stmts (then x ss) = all_then x ss (complete_stmt x) (complete_stmts ss)

-- a statement, in front of no `else` that it would take
pub stmt_read : (x : Stmt) (n l : ℕ) (ts : List Token) → FitsStmt x → length (spelled_stmt x ts) < n → length (spelled_stmt x ts) < l → Closed x ts → r.stmt n l (spelled_stmt x ts) ≡ Ok (x, ts)
stmt_read x = inner x (complete_stmt x)

-- statements, in front of a right brace
pub statements_read : (ss : Stmts) (n l : ℕ) (right : Token) (ts : List Token) → FitsStmts ss → Is k.RightBrace right
    → length (spelled_stmts ss (right ∷ ts)) < n → length (spelled_stmts ss (right ∷ ts)) < l → r.statements (r.stmt n l) l (spelled_stmts ss (right ∷ ts)) ≡ Ok (ss, right ∷ ts)
statements_read ss = all_read ss (complete_stmts ss)

-- a block, after its left brace
pub body_read : (left : Token) (ss : Stmts) (right : Token) (n l : ℕ) (ts : List Token) → FitsBody (body left ss right)
    → length (spelled_stmts ss (right ∷ ts)) < n → length (spelled_stmts ss (right ∷ ts)) < l → r.a_body (r.stmt n l) l left (spelled_stmts ss (right ∷ ts)) ≡ Ok (body left ss right, ts)
body_read left ss right n l ts f a b = body_done (r.stmt n l) l left right ss (spelled_stmts ss (right ∷ ts)) ts f.2 (statements_read ss n l right ts f.1 f.2 a b)

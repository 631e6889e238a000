-- What is read as a statement is spelled so.
use Rattle.std.proofs.Common.{◌≡◌, ℕ, zero, suc, ◌<◌, ◌≤◌, Bool, true, false, List, [], ◌∷◌, length, Option, Some, None, refl, ap, sym, ◌∙◌, arith}
use Rattle.ang_lex.specs.declared.token.Token.{Token}
use Rattle.ang_lex.specs.declared.token.TokenKind.{TokenKind}
use Rattle.ang_lex.specs.declared.token.TokenKind.TheVariants as k
use Rattle.ang_tree.specs.Kinds.{Is}
use Rattle.ang_tree.specs.Tree.{Trees, spelled, listed, Fits, AllFit}
use Rattle.ang_tree.specs.View.{Branch}
use Rattle.ang_tree.specs.Stmt.{Start, with_variables, with_expression, Stmt, Body, Stmts, block, break, continue, return, body, end, then, added_stmt, spelled_option, spelled_start, spelled_stmt, spelled_body, spelled_stmts, open_if, FitsOption, FitsStart, FitsStmt, FitsBody, FitsStmts}
use Rattle.ang_parse_read.specs.Read.{Parser, pure}
use Rattle.ang_parse_read.specs.Tokens.{a_token, is_left_paren, is_right_paren, is_right_brace, is_semicolon, is_while}
use Rattle.ang_parse_read.proofs.Outcomes.{Reads, and_reads, along, behind, further, ChoiceReads, look_reads, look_or_pass_reads, Passes, Turns, repeat_reads_to, From-self, From-one}
use Rattle.ang_parse_read.proofs.Tokens.{Always, begins, Token_read, a_token_reads, left_paren_is, right_paren_is, right_brace_is, semicolon_is, while_is}
use Rattle.ang_parse_expr.specs.ReadExpr.{expr, expressions}
use Rattle.ang_parse_expr.proofs.Sound.{IsExpr, AreListed, expressions_at_reads}
use Rattle.ang_parse_stmt.specs.ReadVars.{ended, start}
use Rattle.ang_parse_stmt.specs.ReadStmt as r
use Rattle.ang_parse_stmt.proofs.Ahead.{ahead_reads}
use Rattle.ang_parse_stmt.proofs.Lengths.{stmt-length}
use Rattle.ang_parse_stmt.proofs.SoundVars.{IsEnded, IsStart, expression_reads, ended_reads, start_reads}

abbrev pub is_else : TokenKind → Bool
is_else k.Else = true
is_else _ = false

-- an `else` that follows would be none of the statement's
abbrev pub Closed : Stmt → List Token → Type 0
Closed x s = open_if x ≡ true → begins is_else s ≡ false

pub record IsStmt (w : List Token) (x : Stmt) (s : List Token) : Type 0 where
  pub text : w ≡ spelled_stmt x s
  pub fits : FitsStmt x
  pub closed : Closed x s

pub record AreStmts (w : List Token) (ss : Stmts) (s : List Token) : Type 0 where
  pub text : w ≡ spelled_stmts ss s
  pub fits : FitsStmts ss

-- a block, after the left brace
pub record IsBody (left : Token) (w : List Token) (b : Body) (s : List Token) : Type 0 where
  pub text : left ∷ w ≡ spelled_body b s
  pub fits : FitsBody b

record FitsCondition (c : r.Condition) : Type 0 where
  left : Is k.LeftParen c.left
  value : Fits c.value
  right : Is k.RightParen c.right

record IsCondition (w : List Token) (c : r.Condition) (s : List Token) : Type 0 where
  text : w ≡ c.left ∷ spelled c.value (c.right ∷ s)
  fits : FitsCondition c

record IsEnding (w : List Token) (e : r.Ending) (s : List Token) : Type 0 where
  text : w ≡ e.word ∷ e.condition.left ∷ spelled e.condition.value (e.condition.right ∷ e.semicolon ∷ s)
  word : Is k.While e.word
  fits : FitsCondition e.condition
  semicolon : Is k.Semicolon e.semicolon

record AreSteps (w : List Token) (p : Trees × Token) (s : List Token) : Type 0 where
  text : w ≡ listed p.0 (p.1 ∷ s)
  fits : AllFit p.0
  right : Is k.RightParen p.1

record IsHead (w : List Token) (h : r.Head) (s : List Token) : Type 0 where
  text : w ≡ h.left ∷ spelled_start h.start (spelled_option h.condition (h.semicolon ∷ listed h.steps (h.right ∷ s)))
  left : Is k.LeftParen h.left
  start : FitsStart h.start
  condition : FitsOption h.condition
  semicolon : Is k.Semicolon h.semicolon
  steps : AllFit h.steps
  right : Is k.RightParen h.right

record IsGuarded (w : List Token) (g : r.Guarded) (s : List Token) : Type 0 where
  text : w ≡ g.condition.left ∷ spelled g.condition.value (g.condition.right ∷ spelled_stmt g.statement s)
  condition : FitsCondition g.condition
  fits : FitsStmt g.statement
  closed : Closed g.statement s

-- [ "else" stmt ]
abbrev IsOther : List Token → Option Branch → List Token → Type 0
IsOther w None s = (w ≡ s) × (begins is_else s ≡ false)
IsOther w (Some b) s = (w ≡ b.0 ∷ spelled_stmt b.1 s) × Is k.Else b.0 × FitsStmt b.1 × Closed b.1 s

stmts-added : (ss : Stmts) (x : Stmt) (s : List Token) → spelled_stmts (added_stmt ss x) s ≡ spelled_stmts ss (spelled_stmt x s)
stmts-added end x s = refl
stmts-added (then y ss) x s = ap (λ v. spelled_stmt y v) (stmts-added ss x s)

FitsStmts-added : (ss : Stmts) (x : Stmt) → FitsStmts ss → FitsStmt x → FitsStmts (added_stmt ss x)
FitsStmts-added end x h f = (f, tt)
FitsStmts-added (then y ss) x h f = (h.0, FitsStmts-added ss x h.1 f)

not_true : (b : Bool) → (b ≡ true → ⊥) → b ≡ false
not_true true h = absurd (h refl)
not_true false h = refl

simple_is : (w : List Token) (b : Start) (s : List Token) → IsStart w b s → IsStmt w (r.simple_of b) s
simple_is w (with_variables vs) s h = record { text = h.text; fits = h.fits; closed = λ e. absurd cc }
simple_is w (with_expression e semicolon) s h = record { text = h.text; fits = h.fits; closed = λ e. absurd cc }

-- the statement of an `if` whose `else` follows ends with no `if` that could take it
taken : (x : Stmt) (s u : List Token) (b : Branch) → Closed x s → s ≡ b.0 ∷ spelled_stmt b.1 u → Is k.Else b.0 → open_if x ≡ false
taken x s u b closed text is = not_true (open_if x) (λ e. let h : begins is_else s ≡ false = closed e in let g : begins is_else s ≡ true = ap (begins is_else) text ∙ ap is_else is in absurd cc)

branched_is : (word : Token) (w : List Token) (g : r.Guarded) (s : List Token) (o : Option Branch) (u : List Token) → Is k.If word → IsGuarded w g s → IsOther s o u → IsStmt (word ∷ w) (r.branched word g o) u
branched_is word w g s None u is h q = record {
  text = ap (λ v. word ∷ v) (h.text ∙ ap (λ v. g.condition.left ∷ spelled g.condition.value (g.condition.right ∷ spelled_stmt g.statement v)) q.0);
  fits = (is, h.condition.left, h.condition.value, h.condition.right, h.fits);
  closed = λ e. q.1;
}
branched_is word w g s (Some b) u is h q = record {
  text = ap (λ v. word ∷ v) (h.text ∙ ap (λ v. g.condition.left ∷ spelled g.condition.value (g.condition.right ∷ spelled_stmt g.statement v)) q.0);
  fits = (is, h.condition.left, h.condition.value, h.condition.right, h.fits, taken g.statement s u b h.closed q.0 q.1, q.1, q.2);
  closed = q.3;
}

module _ (n l : ℕ) (le : n ≤ l) where
  condition_reads : (ts : List Token) → Reads n ts (IsCondition ts) (r.condition l ts)
  unfolding r.condition
  condition_reads ts =
      and_reads n ts (Token_read is_left_paren ts) (IsCondition ts) (a_token is_left_paren ts) _ (a_token_reads is_left_paren n ts)
      (λ left s p f. further n ts s (IsCondition ts) _ _ f (λ y u z. z)
      (and_reads n s (IsExpr s 0) (IsCondition ts) (expr l 0 s) _ (expression_reads n l le s)
      (λ c u q g. further n s u (IsCondition ts) _ _ g (λ y u z. z)
      (and_reads n u (Token_read is_right_paren u) (IsCondition ts) (a_token is_right_paren u) (λ right. pure (r.condition_of left c right)) (a_token_reads is_right_paren n u)
      (λ right v t i. (
        record {
          text = p.text ∙ ap (λ x. left ∷ x) (q.text ∙ ap (λ x. spelled c x) t.text);
          fits = record { left = left_paren_is left.kind p.kind; value = q.fits; right = right_paren_is right.kind t.kind };
        },
        i,
      ))))))

  ending_reads : (ts : List Token) → Reads n ts (IsEnding ts) (r.ending l ts)
  unfolding r.ending
  ending_reads ts =
      and_reads n ts (Token_read is_while ts) (IsEnding ts) (a_token is_while ts) _ (a_token_reads is_while n ts)
      (λ word s p f. further n ts s (IsEnding ts) _ _ f (λ y u z. z)
      (and_reads n s (IsCondition s) (IsEnding ts) (r.condition l s) _ (condition_reads s)
      (λ c u q g. further n s u (IsEnding ts) _ _ g (λ y u z. z)
      (and_reads n u (Token_read is_semicolon u) (IsEnding ts) (a_token is_semicolon u) (λ semicolon. pure (r.ending_of word c semicolon)) (a_token_reads is_semicolon n u)
      (λ semicolon v t i. (
        record {
          text = p.text ∙ ap (λ x. word ∷ x) (q.text ∙ ap (λ x. c.left ∷ spelled c.value (c.right ∷ x)) t.text);
          word = while_is word.kind p.kind;
          fits = q.fits;
          semicolon = semicolon_is semicolon.kind t.kind;
        },
        i,
      ))))))

  list_reads : (ts : List Token) → Reads n ts (AreListed ts) (expressions (expr l) l ts)
  list_reads ts = along l n ts ts (AreListed ts) _ _ (From-self ts) (λ d. omega arith) (λ x s q. q) (expressions_at_reads l ts)

  some_steps_reads : (ts : List Token) → Reads n ts (AreSteps ts) (r.some_steps l ts)
  unfolding r.some_steps
  some_steps_reads ts =
      and_reads n ts (AreListed ts) (AreSteps ts) (expressions (expr l) l ts) _ (list_reads ts)
      (λ es s q f. further n ts s (AreSteps ts) _ _ f (λ y u z. z)
      (and_reads n s (Token_read is_right_paren s) (AreSteps ts) (a_token is_right_paren s) (λ right. pure (es, right)) (a_token_reads is_right_paren n s)
      (λ right u p g. (record { text = q.text ∙ ap (λ v. listed es v) p.text; fits = q.fits; right = right_paren_is right.kind p.kind }, g))))

  steps_by_reads : ChoiceReads n Always AreSteps (r.steps_by l)
  steps_by_reads k.RightParen t u is z = (record { text = refl; fits = tt; right = is }, From-one t u)
  steps_by_reads _ t u is z = tt

  steps_reads : (ts : List Token) → Reads n ts (AreSteps ts) (r.steps l ts)
  unfolding r.steps
  steps_reads ts = look_reads n Always AreSteps (r.steps_by l) (r.some_steps l) steps_by_reads (λ ts z. some_steps_reads ts) ts tt

  head_reads : (ts : List Token) → Reads n ts (IsHead ts) (r.head l ts)
  unfolding r.head
  head_reads ts =
      and_reads n ts (Token_read is_left_paren ts) (IsHead ts) (a_token is_left_paren ts) _ (a_token_reads is_left_paren n ts)
      (λ left s1 p f1. further n ts s1 (IsHead ts) _ _ f1 (λ y u z. z)
      (and_reads n s1 (IsStart s1) (IsHead ts) (start l s1) _ (start_reads n l le s1)
      (λ b s2 q f2. further n s1 s2 (IsHead ts) _ _ f2 (λ y u z. z)
      (and_reads n s2 (IsEnded s2) (IsHead ts) (ended l s2) _ (ended_reads n l le s2)
      (λ c s3 h f3. further n s2 s3 (IsHead ts) _ _ f3 (λ y u z. z)
      (and_reads n s3 (AreSteps s3) (IsHead ts) (r.steps l s3) (λ es. pure (r.head_of left b c es)) (steps_reads s3)
      (λ es s4 e f4. (
        record {
          text = p.text ∙ ap (λ x. left ∷ x) (q.text ∙ ap (λ x. spelled_start b x) (h.text ∙ ap (λ x. spelled_option c.0 (c.1 ∷ x)) e.text));
          left = left_paren_is left.kind p.kind;
          start = q.fits;
          condition = h.fits;
          semicolon = h.semicolon;
          steps = e.fits;
          right = e.right;
        },
        f4,
      ))))))))

  simple_reads : (ts : List Token) → Reads n ts (IsStmt ts) (r.simple l ts)
  unfolding r.simple
  simple_reads ts = and_reads n ts (IsStart ts) (IsStmt ts) (start l ts) (λ b. pure (r.simple_of b)) (start_reads n l le ts) (λ b s q f. (simple_is ts b s q, f))

  broken_reads : (word : Token) → Is k.Break word → (ts : List Token) → Reads n ts (IsStmt (word ∷ ts)) (r.broken word ts)
  unfolding r.broken
  broken_reads word is ts =
      and_reads n ts (Token_read is_semicolon ts) (IsStmt (word ∷ ts)) (a_token is_semicolon ts) (λ semicolon. pure (break word semicolon)) (a_token_reads is_semicolon n ts)
      (λ semicolon s p f. (record { text = ap (λ v. word ∷ v) p.text; fits = (is, semicolon_is semicolon.kind p.kind); closed = λ e. absurd cc }, f))

  continued_reads : (word : Token) → Is k.Continue word → (ts : List Token) → Reads n ts (IsStmt (word ∷ ts)) (r.continued word ts)
  unfolding r.continued
  continued_reads word is ts =
      and_reads n ts (Token_read is_semicolon ts) (IsStmt (word ∷ ts)) (a_token is_semicolon ts) (λ semicolon. pure (continue word semicolon)) (a_token_reads is_semicolon n ts)
      (λ semicolon s p f. (record { text = ap (λ v. word ∷ v) p.text; fits = (is, semicolon_is semicolon.kind p.kind); closed = λ e. absurd cc }, f))

  returned_reads : (word : Token) → Is k.Return word → (ts : List Token) → Reads n ts (IsStmt (word ∷ ts)) (r.returned l word ts)
  unfolding r.returned
  returned_reads word is ts =
      and_reads n ts (IsEnded ts) (IsStmt (word ∷ ts)) (ended l ts) (λ e. pure (return word e.0 e.1)) (ended_reads n l le ts)
      (λ e s q f. (record { text = ap (λ v. word ∷ v) q.text; fits = (is, q.fits, q.semicolon); closed = λ e. absurd cc }, f))

module _ (n l : ℕ) (le : n < l) (stmt : Parser Stmt) (S : (ts : List Token) → Reads n ts (IsStmt ts) (stmt ts)) where
  low : n ≤ l
  low = omega arith

  abbrev More : List Token → ℕ → Stmts × Bool → List Token → Type 0
  More w len = Turns (AreStmts w) (AreStmts w) len

  next_statement_reads : (w : List Token) (ss : Stmts) (ts : List Token) → AreStmts w ss ts → Reads n ts (More w (length ts)) (r.next_statement stmt l ss ts)
  unfolding r.next_statement
  next_statement_reads w ss ts h =
      and_reads n ts (IsStmt ts) (More w (length ts)) (stmt ts) (λ x. pure (added_stmt ss x, true)) (S ts)
      (λ x s q f. ((record { text = h.text ∙ ap (λ v. spelled_stmts ss v) q.text ∙ sym (stmts-added ss x s); fits = FitsStmts-added ss x h.fits q.fits }, omega (arith, ap length q.text, stmt-length x s)), f))

  other_statement_reads : (w : List Token) (ss : Stmts) (ts : List Token) → AreStmts w ss ts → Reads n ts (More w (length ts)) (r.other_statement stmt l ss ts)
  unfolding r.other_statement
  other_statement_reads w ss ts h = ahead_reads n (More w (length ts)) is_right_brace (pure (ss, false)) (r.next_statement stmt l ss) ts (λ e. (h, From-self ts)) (λ e. next_statement_reads w ss ts h)

  pub statements_reads : (ts : List Token) → Reads n ts (AreStmts ts) (r.statements stmt l ts)
  unfolding r.statements
  statements_reads ts = repeat_reads_to (AreStmts ts) (AreStmts ts) n (r.other_statement stmt l) (other_statement_reads ts) l n (omega arith) low end ts (record { text = refl; fits = tt })

  pub body_reads : (left : Token) → Is k.LeftBrace left → (ts : List Token) → Reads n ts (IsBody left ts) (r.a_body stmt l left ts)
  unfolding r.a_body
  body_reads left is ts =
      and_reads n ts (AreStmts ts) (IsBody left ts) (r.statements stmt l ts) _ (statements_reads ts)
      (λ ss s q f. further n ts s (IsBody left ts) _ _ f (λ y u z. z)
      (and_reads n s (Token_read is_right_brace s) (IsBody left ts) (a_token is_right_brace s) (λ right. pure (body left ss right)) (a_token_reads is_right_brace n s)
      (λ right u p g. (record { text = ap (λ v. left ∷ v) (q.text ∙ ap (λ v. spelled_stmts ss v) p.text); fits = (is, q.fits, right_brace_is right.kind p.kind) }, g))))

  braced_reads : (left : Token) → Is k.LeftBrace left → (ts : List Token) → Reads n ts (IsStmt (left ∷ ts)) (r.braced stmt l left ts)
  unfolding r.braced
  braced_reads left is ts =
      and_reads n ts (IsBody left ts) (IsStmt (left ∷ ts)) (r.a_body stmt l left ts) (λ b. pure (block b)) (body_reads left is ts)
      (λ b s q f. (record { text = q.text; fits = q.fits; closed = λ e. absurd cc }, f))

  guarded_reads : (ts : List Token) → Reads n ts (IsGuarded ts) (r.guarded stmt l ts)
  unfolding r.guarded
  guarded_reads ts =
      and_reads n ts (IsCondition ts) (IsGuarded ts) (r.condition l ts) _ (condition_reads n l low ts)
      (λ c s q f. further n ts s (IsGuarded ts) _ _ f (λ y u z. z)
      (and_reads n s (IsStmt s) (IsGuarded ts) (stmt s) (λ x. pure (r.guarded_of c x)) (S s)
      (λ x u p g. (record { text = q.text ∙ ap (λ v. c.left ∷ spelled c.value (c.right ∷ v)) p.text; condition = q.fits; fits = p.fits; closed = p.closed }, g))))

  other_branch_reads : (word : Token) → Is k.Else word → (ts : List Token) → Reads n ts (IsOther (word ∷ ts)) (r.other_branch stmt l word ts)
  unfolding r.other_branch
  other_branch_reads word is ts =
      and_reads n ts (IsStmt ts) (IsOther (word ∷ ts)) (stmt ts) (λ x. pure (Some (word, x))) (S ts)
      (λ x s q f. ((ap (λ v. word ∷ v) q.text, is, q.fits, q.closed), f))

  otherwise_by_reads : ChoiceReads n Always IsOther (r.otherwise_by stmt l)
  otherwise_by_reads k.Else t u is z = further n (t ∷ u) u (IsOther (t ∷ u)) _ _ (From-one t u) (λ y s q. q) (other_branch_reads t is u)
  otherwise_by_reads _ t u is z = tt

  passed_by : (kind : TokenKind) → r.otherwise_by stmt l kind ≡ None → is_else kind ≡ false
  passed_by k.Else h = absurd cc
  passed_by _ h = refl

  passed : (ts : List Token) → Passes (r.otherwise_by stmt l) ts → begins is_else ts ≡ false
  passed [] h = refl
  passed (t ∷ u) h = passed_by t.kind h

  otherwise_reads : (ts : List Token) → Reads n ts (IsOther ts) (r.otherwise stmt l ts)
  unfolding r.otherwise
  otherwise_reads ts = look_or_pass_reads n Always IsOther (r.otherwise_by stmt l) (pure None) otherwise_by_reads (λ ts z passes. ((refl, passed ts passes), From-self ts)) ts tt

  conditional_reads : (word : Token) → Is k.If word → (ts : List Token) → Reads n ts (IsStmt (word ∷ ts)) (r.conditional stmt l word ts)
  unfolding r.conditional
  conditional_reads word is ts =
      and_reads n ts (IsGuarded ts) (IsStmt (word ∷ ts)) (r.guarded stmt l ts) _ (guarded_reads ts)
      (λ g s q f. further n ts s (IsStmt (word ∷ ts)) _ _ f (λ y u z. z)
      (and_reads n s (IsOther s) (IsStmt (word ∷ ts)) (r.otherwise stmt l s) (λ o. pure (r.branched word g o)) (otherwise_reads s)
      (λ o u p i. (branched_is word ts g s o u is q p, i))))

  while_loop_reads : (word : Token) → Is k.While word → (ts : List Token) → Reads n ts (IsStmt (word ∷ ts)) (r.while_loop stmt l word ts)
  unfolding r.while_loop
  while_loop_reads word is ts =
      and_reads n ts (IsGuarded ts) (IsStmt (word ∷ ts)) (r.guarded stmt l ts) (λ g. pure (r.while_of word g)) (guarded_reads ts)
      (λ g s q f. (record { text = ap (λ v. word ∷ v) q.text; fits = (is, q.condition.left, q.condition.value, q.condition.right, q.fits); closed = q.closed }, f))

  do_loop_reads : (word : Token) → Is k.Do word → (ts : List Token) → Reads n ts (IsStmt (word ∷ ts)) (r.do_loop stmt l word ts)
  unfolding r.do_loop
  do_loop_reads word is ts =
      and_reads n ts (IsStmt ts) (IsStmt (word ∷ ts)) (stmt ts) _ (S ts)
      (λ x s q f. further n ts s (IsStmt (word ∷ ts)) _ _ f (λ y u z. z)
      (and_reads n s (IsEnding s) (IsStmt (word ∷ ts)) (r.ending l s) (λ e. pure (r.do_while_of word x e)) (ending_reads n l low s)
      (λ e u p g. (
        record {
          text = ap (λ v. word ∷ v) (q.text ∙ ap (λ v. spelled_stmt x v) p.text);
          fits = (is, q.fits, p.word, p.fits.left, p.fits.value, p.fits.right, p.semicolon);
          closed = λ e. absurd cc;
        },
        g,
      ))))

  for_loop_reads : (word : Token) → Is k.For word → (ts : List Token) → Reads n ts (IsStmt (word ∷ ts)) (r.for_loop stmt l word ts)
  unfolding r.for_loop
  for_loop_reads word is ts =
      and_reads n ts (IsHead ts) (IsStmt (word ∷ ts)) (r.head l ts) _ (head_reads n l low ts)
      (λ h s q f. further n ts s (IsStmt (word ∷ ts)) _ _ f (λ y u z. z)
      (and_reads n s (IsStmt s) (IsStmt (word ∷ ts)) (stmt s) (λ x. pure (r.for_of word h x)) (S s)
      (λ x u p g. (
        record {
          text = ap (λ v. word ∷ v) (q.text ∙ ap (λ v. h.left ∷ spelled_start h.start (spelled_option h.condition (h.semicolon ∷ listed h.steps (h.right ∷ v)))) p.text);
          fits = (is, q.left, q.start, q.condition, q.semicolon, q.steps, q.right, p.fits);
          closed = p.closed;
        },
        g,
      ))))

  statement_by_reads : ChoiceReads (suc n) Always IsStmt (r.statement_by stmt l)
  statement_by_reads k.LeftBrace t u is z = behind n t u (IsStmt (t ∷ u)) _ _ (λ y s q. q) (braced_reads t is u)
  statement_by_reads k.If t u is z = behind n t u (IsStmt (t ∷ u)) _ _ (λ y s q. q) (conditional_reads t is u)
  statement_by_reads k.While t u is z = behind n t u (IsStmt (t ∷ u)) _ _ (λ y s q. q) (while_loop_reads t is u)
  statement_by_reads k.Do t u is z = behind n t u (IsStmt (t ∷ u)) _ _ (λ y s q. q) (do_loop_reads t is u)
  statement_by_reads k.For t u is z = behind n t u (IsStmt (t ∷ u)) _ _ (λ y s q. q) (for_loop_reads t is u)
  statement_by_reads k.Break t u is z = behind n t u (IsStmt (t ∷ u)) _ _ (λ y s q. q) (broken_reads n l low t is u)
  statement_by_reads k.Continue t u is z = behind n t u (IsStmt (t ∷ u)) _ _ (λ y s q. q) (continued_reads n l low t is u)
  statement_by_reads k.Return t u is z = behind n t u (IsStmt (t ∷ u)) _ _ (λ y s q. q) (returned_reads n l low t is u)
  statement_by_reads _ t u is z = tt

  statement_reads : (ts : List Token) → Reads (suc n) ts (IsStmt ts) (r.statement stmt l ts)
  unfolding r.statement
  statement_reads ts = look_reads (suc n) Always IsStmt (r.statement_by stmt l) (r.simple l) statement_by_reads (λ ts z. simple_reads (suc n) l (omega arith) ts) ts tt

pub stmt_reads : (n l : ℕ) → n ≤ l → (ts : List Token) → Reads n ts (IsStmt ts) (r.stmt n l ts)
unfolding r.stmt
stmt_reads zero l le ts = omega arith
stmt_reads (suc n) l le ts = statement_reads n l (omega arith) (r.stmt n l) (stmt_reads n l (omega arith)) ts

-- the same of the readers of a list of statements and of a block
pub statements_at_reads : (n l : ℕ) → n < l → (ts : List Token) → Reads n ts (AreStmts ts) (r.statements (r.stmt n l) l ts)
statements_at_reads n l le ts = statements_reads n l le (r.stmt n l) (stmt_reads n l (omega arith)) ts

pub body_at_reads : (n l : ℕ) → n < l → (left : Token) → Is k.LeftBrace left → (ts : List Token) → Reads n ts (IsBody left ts) (r.a_body (r.stmt n l) l left ts)
body_at_reads n l le left is ts = body_reads n l le (r.stmt n l) (stmt_reads n l (omega arith)) left is ts

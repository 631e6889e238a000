-- What is read as statements up to a right brace is spelled so, with the bound of statements up to that of loops.
use Rattle.std.proofs.Common.{◌≡◌, ℕ, ◌≤◌, Bool, true, false, List, ◌∷◌, length, refl, ap, sym, ◌∙◌, arith}
use Rattle.ang_lex.specs.declared.token.Token.{Token}
use Rattle.ang_lex.specs.declared.token.TokenKind.TheVariants as k
use Rattle.ang_tree.specs.Kinds.{Is}
use Rattle.ang_tree.specs.Stmt.{Stmt, Stmts, body, end, then, added_stmt, spelled_stmt, spelled_stmts, FitsStmt, FitsStmts}
use Rattle.ang_parse_read.specs.Read.{pure}
use Rattle.ang_parse_read.specs.Tokens.{a_token, is_right_brace}
use Rattle.ang_parse_read.proofs.Outcomes.{Reads, and_reads, further, Turns, repeat_reads_to, From-self}
use Rattle.ang_parse_read.proofs.Tokens.{Token_read, a_token_reads, right_brace_is}
use Rattle.ang_parse_stmt.specs.ReadStmt as r
use Rattle.ang_parse_stmt.proofs.Ahead.{ahead_reads}
use Rattle.ang_parse_stmt.proofs.Lengths.{stmt-length}
use Rattle.ang_parse_stmt.proofs.SoundStmt.{IsStmt, AreStmts, IsBody, stmt_reads}

stmts-added : (ss : Stmts) (x : Stmt) (s : List Token) → spelled_stmts (added_stmt ss x) s ≡ spelled_stmts ss (spelled_stmt x s)
stmts-added end x s = refl
stmts-added (then y ss) x s = ap (λ v. spelled_stmt y v) (stmts-added ss x s)

FitsStmts-added : (ss : Stmts) (x : Stmt) → FitsStmts ss → FitsStmt x → FitsStmts (added_stmt ss x)
FitsStmts-added end x h f = (f, tt)
FitsStmts-added (then y ss) x h f = (h.0, FitsStmts-added ss x h.1 f)

module _ (n l : ℕ) (le : n ≤ l) where
  abbrev More : List Token → ℕ → Stmts × Bool → List Token → Type 0
  More w len = Turns (AreStmts w) (AreStmts w) len

  next_reads : (w : List Token) (ss : Stmts) (ts : List Token) → AreStmts w ss ts → Reads n ts (More w (length ts)) (r.next_statement (r.stmt n l) l ss ts)
  unfolding r.next_statement
  next_reads w ss ts h =
      and_reads n ts (IsStmt ts) (More w (length ts)) (r.stmt n l ts) (λ x. pure (added_stmt ss x, true)) (stmt_reads n l le ts)
      (λ x s q f. ((record { text = h.text ∙ ap (λ v. spelled_stmts ss v) q.text ∙ sym (stmts-added ss x s); fits = FitsStmts-added ss x h.fits q.fits }, omega (arith, ap length q.text, stmt-length x s)), f))

  other_reads : (w : List Token) (ss : Stmts) (ts : List Token) → AreStmts w ss ts → Reads n ts (More w (length ts)) (r.other_statement (r.stmt n l) l ss ts)
  unfolding r.other_statement
  other_reads w ss ts h = ahead_reads n (More w (length ts)) is_right_brace (pure (ss, false)) (r.next_statement (r.stmt n l) l ss) ts (λ e. (h, From-self ts)) (λ e. next_reads w ss ts h)

  pub statements_within_reads : (ts : List Token) → Reads n ts (AreStmts ts) (r.statements (r.stmt n l) l ts)
  unfolding r.statements
  statements_within_reads ts = repeat_reads_to (AreStmts ts) (AreStmts ts) n (r.other_statement (r.stmt n l) l) (other_reads ts) l n (omega arith) le end ts (record { text = refl; fits = tt })

  pub body_within_reads : (left : Token) → Is k.LeftBrace left → (ts : List Token) → Reads n ts (IsBody left ts) (r.a_body (r.stmt n l) l left ts)
  unfolding r.a_body
  body_within_reads left is ts =
      and_reads n ts (AreStmts ts) (IsBody left ts) (r.statements (r.stmt n l) l ts) _ (statements_within_reads ts)
      (λ ss s q f. further n ts s (IsBody left ts) _ _ f (λ y u z. z)
      (and_reads n s (Token_read is_right_brace s) (IsBody left ts) (a_token is_right_brace s) (λ right. pure (body left ss right)) (a_token_reads is_right_brace n s)
      (λ right u p g. (record { text = ap (λ v. left ∷ v) (q.text ∙ ap (λ v. spelled_stmts ss v) p.text); fits = (is, q.fits, right_brace_is right.kind p.kind) }, g))))

-- The reader of statements is exact against the grammar.
use Rattle.std.proofs.Common.{◌≡◌, ℕ, ◌<◌, List, [], length, Ok, refl, ap, ◌∙◌, arith}
use Rattle.ang_lex.specs.declared.token.Token.{Token}
use Rattle.ang_tree.specs.Stmt.{Stmt, SpellsStmt}
use Rattle.ang_parse_read.proofs.Whole.{Exact, one_reading}
use Rattle.ang_parse_stmt.specs.ReadStmt as r
use Rattle.ang_parse_stmt.proofs.SoundStmt.{IsStmt, stmt_reads}
use Rattle.ang_parse_stmt.proofs.CompleteStmt.{stmt_read}
use Rattle.ang_parse_stmt.proofs.PrefixStmt.{stmt_prefix}

read_again : (x : Stmt) (ts : List Token) (n : ℕ) → SpellsStmt x ts → length ts < n → r.stmt n n ts ≡ Ok (x, [])
read_again x ts n h le = ap (r.stmt n n) h.text ∙ stmt_read x n n [] h.fits (omega (arith, ap length h.text)) (omega (arith, ap length h.text)) (λ e. refl)

pub statements_exact : Exact (λ n. r.stmt n n) (λ ts. Unit {0}) IsStmt SpellsStmt
statements_exact = record {
  reads = λ n ts. stmt_reads n n (omega arith) ts;
  whole = λ ts x such h. record { fits = h.fits; text = h.text };
  again = read_again;
  on_prefix = λ b z m n le. stmt_prefix b z m n le m n le;
}

pub one_tree : (x y : Stmt) (ts : List Token) → SpellsStmt x ts → SpellsStmt y ts → x ≡ y
one_tree = one_reading Stmt (λ n. r.stmt n n) (λ ts. Unit {0}) IsStmt SpellsStmt statements_exact

-- The reader of expressions is exact against the grammar.
use Rattle.std.proofs.Common.{◌≡◌, ℕ, ◌+◌, ◌<◌, ◌≤◌, List, [], ◌∷◌, length, Some, None, Ok, ap, ◌∙◌, arith}
use Rattle.ang_lex.specs.declared.token.Token.{Token}
use Rattle.ang_tree.specs.Tree.{Tree, Args, Trees, literal, name, call, scoped_call, scoped_name, cast, convert, group, postfix, member, method_call, prefix, binary, conditional, assignment, arguments, none, more, spelled, spelled_args, listed, Fits, FitsArgs, AllFit, OthersFit, Spells}
use Rattle.ang_parse_read.proofs.Whole.{Exact, one_reading}
use Rattle.ang_parse_expr.specs.ReadExpr as r
use Rattle.ang_parse_expr.proofs.SoundType.{optional-length, type-length}
use Rattle.ang_parse_expr.proofs.Sound.{IsExpr, expr_reads}
use Rattle.ang_parse_expr.proofs.PrefixExpr.{expr_prefix}
use Rattle.ang_parse_expr.proofs.Complete.{size, size_args, size_all, expr_complete}

mutual
  pub size-length : (x : Tree) (s : List Token) → Fits x → size x + length s ≤ length (spelled x s)
  size-length (literal t) s f = omega arith
  size-length (name x) s f = omega arith
  size-length (call x es) s f = omega (arith, args-size es s f.1)
  size-length (scoped_call c scope x es) s f = omega (arith, args-size es s f.3)
  size-length (scoped_name c scope x) s f = omega arith
  size-length (cast word less y greater left e right) s f = omega (arith, type-length y (greater ∷ left ∷ spelled e (right ∷ s)), size-length e (right ∷ s) f.5)
  size-length (convert p left e right) s f = omega (arith, size-length e (right ∷ s) f.2)
  size-length (group left e right) s f = omega (arith, size-length e (right ∷ s) f.1)
  size-length (postfix e op) s f = omega (arith, size-length e (op ∷ s) f.0)
  size-length (member e dot x) s f = omega (arith, size-length e (dot ∷ x ∷ s) f.0)
  size-length (method_call e dot x es) s f = omega (arith, size-length e (dot ∷ x ∷ spelled_args es s) f.0, args-size es s f.4)
  size-length (prefix op e) s f = omega (arith, size-length e s f.1)
  size-length (binary a op b) s f = omega (arith, size-length a (op ∷ spelled b s) f.0, size-length b s f.2)
  size-length (conditional c question a colon b) s f = omega (arith, size-length c (question ∷ spelled a (colon ∷ spelled b s)) f.0, size-length a (colon ∷ spelled b s) f.3, size-length b s f.5)
  size-length (assignment a op b) s f = omega (arith, size-length a (op ∷ spelled b s) f.0, size-length b s f.3)

  pub args-size : (es : Args) (s : List Token) → FitsArgs es → size_args es + length s < length (spelled_args es s)
  args-size (arguments left es right) s f = omega (arith, listed-size es (right ∷ s) f.1)

  pub listed-size : (es : Trees) (s : List Token) → AllFit es → size_all es + length s ≤ length (listed es s) + 1
  listed-size none s f = omega arith
  listed-size (more comma e es) s f = omega (arith, optional-length comma (spelled e (listed es s)), size-length e (listed es s) f.1, others-size es s f.2)

  others-size : (es : Trees) (s : List Token) → OthersFit es → size_all es + length s ≤ length (listed es s)
  others-size none s f = omega arith
  others-size (more None e es) s f = absurd f.0
  others-size (more (Some comma) e es) s f = omega (arith, size-length e (listed es s) f.1, others-size es s f.2)

read_again : (x : Tree) (ts : List Token) (n : ℕ) → Spells x ts → length ts < n → r.expr n 0 ts ≡ Ok (x, [])
read_again x ts n h le = ap (r.expr n 0) h.text ∙ expr_complete x n [] h.fits (omega (arith, size-length x [] h.fits, ap length h.text)) (omega arith)

pub expressions_exact : Exact (λ n. r.expr n 0) (λ ts. Unit {0}) (λ ts. IsExpr ts 0) Spells
expressions_exact = record {
  reads = λ n ts. expr_reads n 0 ts (omega arith);
  whole = λ ts x such h. record { fits = h.fits; text = h.text };
  again = read_again;
  on_prefix = λ a z m n le. expr_prefix a z m n 0 le;
}

pub one_tree : (x y : Tree) (ts : List Token) → Spells x ts → Spells y ts → x ≡ y
one_tree = one_reading Tree (λ n. r.expr n 0) (λ ts. Unit {0}) (λ ts. IsExpr ts 0) Spells expressions_exact

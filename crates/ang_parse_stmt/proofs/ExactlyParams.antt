-- The reader of parameters is exact against the grammar.
use Rattle.std.proofs.Common.{◌≡◌, ℕ, ◌<◌, List, [], length, Ok, ap, ◌∙◌, arith}
use Rattle.ang_lex.specs.declared.token.Token.{Token}
use Rattle.ang_tree.specs.Declarations.{Params}
use Rattle.ang_parse_read.proofs.Whole.{Exact, one_reading}
use Rattle.ang_parse_stmt.specs.Params.{SpellsParams}
use Rattle.ang_parse_stmt.specs.ReadParams as r
use Rattle.ang_parse_stmt.proofs.SoundParams.{IsParams, a_params_reads}
use Rattle.ang_parse_stmt.proofs.CompleteParams.{a_params_complete}
use Rattle.ang_parse_stmt.proofs.PrefixParams.{a_params_prefix}

read_again : (x : Params) (ts : List Token) (n : ℕ) → SpellsParams x ts → length ts < n → r.a_params n ts ≡ Ok (x, [])
read_again x ts n h le = ap (r.a_params n) h.text ∙ a_params_complete x n [] h.fits (omega (arith, ap length h.text))

pub params_exact : Exact r.a_params (λ ts. Unit {0}) IsParams SpellsParams
params_exact = record {
  reads = λ n ts. a_params_reads n n (omega arith) ts;
  whole = λ ts x such h. record { fits = h.fits; text = h.text };
  again = read_again;
  on_prefix = λ b z m n le. a_params_prefix b z m n le;
}

pub one_tree : (x y : Params) (ts : List Token) → SpellsParams x ts → SpellsParams y ts → x ≡ y
one_tree = one_reading Params r.a_params (λ ts. Unit {0}) IsParams SpellsParams params_exact

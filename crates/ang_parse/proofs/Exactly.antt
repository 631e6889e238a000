-- The reader of scripts is exact against the grammar.
use Rattle.std.proofs.Common.{◌≡◌, ℕ, ◌<◌, List, [], length, None, Ok, ap, ◌∙◌, arith}
use Rattle.ang_lex.specs.declared.token.Token.{Token}
use Rattle.ang_tree.specs.Depth.{too_deep}
use Rattle.ang_tree.specs.Declarations.{Decl, SpellsScript}
use Rattle.ang_parse_read.proofs.Whole.{Exact, one_reading}
use Rattle.ang_parse.specs.ReadScript as r
use Rattle.ang_parse.proofs.SoundScript.{AreDecls, script_reads}
use Rattle.ang_parse.proofs.CompleteScript.{script_complete}
use Rattle.ang_parse.proofs.PrefixScript.{script_prefix}

abbrev pub IsShallow : List Token → Type 0
IsShallow ts = too_deep ts ≡ None

read_again : (ds : List Decl) (ts : List Token) (n : ℕ) → SpellsScript ds ts → length ts < n → r.script n ts ≡ Ok (ds, [])
read_again ds ts n h le = ap (r.script n) h.text ∙ script_complete ds n h.fits (omega (arith, ap length h.text))

pub scripts_exact : Exact r.script IsShallow AreDecls SpellsScript
scripts_exact = record {
  reads = λ n ts. script_reads n ts;
  whole = λ ts ds such h. record { fits = h.fits; text = h.text; shallow = such };
  again = read_again;
  on_prefix = λ b z m n le. script_prefix b z m n le;
}

pub one_script : (x y : List Decl) (ts : List Token) → SpellsScript x ts → SpellsScript y ts → x ≡ y
one_script = one_reading (List Decl) r.script IsShallow AreDecls SpellsScript scripts_exact

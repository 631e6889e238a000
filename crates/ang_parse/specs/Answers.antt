-- What a section's tokens are: a script, or the first fault. (docs/LANGUAGE.md, "Grammar".)
use Rattle.std.specs.Prelude.{◌≡◌, ℕ, List, Option, Some, None, Result, Ok, Err}
use Rattle.ang_kinds.specs.declared.place.Place.{Place}
use Rattle.ang_lex.specs.declared.token.Token.{Token}
use Rattle.ang_tree.specs.Depth.{too_deep}
use Rattle.ang_tree.specs.Declarations.{Decl, SpellsScript}
use Rattle.ang_parse_read.specs.Read.{Outcome, at, deep}
use Rattle.ang_parse_read.specs.Law.{Refused, all_of}
use Rattle.ang_parse.specs.declared.error.ParseError.{ParseError}
use Rattle.ang_parse.specs.declared.error.ParseError.TheVariants as e
use Rattle.ang_parse.specs.Faults.{place_at, name_at}
use Rattle.ang_parse.specs.ReadScript.{script}

-- Depth is judged before the grammar. The bound on nested calls is above the number of tokens, so it is never too small.
abbrev pub judged : List ℕ → List Token → Option (List Token) → Outcome (List Decl) → Result (List Decl) ParseError
judged text tokens (Some rest) read = Err (e.TooDeep (place_at tokens rest))
judged text tokens None (Ok p) = Ok p.0
judged text tokens None (Err (at rest)) = Err (e.Syntax (place_at tokens rest) (name_at text rest))
judged text tokens None (Err deep) = Err e.Memory

-- What the tokens of a text are, with memory enough: the declarations of a script, or the fault.
unfoldable pub script_of : List ℕ → List Token → Result (List Decl) ParseError
script_of text tokens = judged text tokens (too_deep tokens) (all_of script tokens)

-- No script has these tokens: not as they are, and not with others after the first one of some rest. The error is there.
pub record IsSyntaxError (text : List ℕ) (tokens : List Token) (place : Place) (name : List ℕ) : Type 0 where
  pub rest : List Token
  pub refused : Refused SpellsScript tokens rest
  pub place_is : place ≡ place_at tokens rest
  pub name_is : name ≡ name_at text rest

-- an error of the grammar is such a one
abbrev pub IfSyntax : ParseError → (Place → List ℕ → Type 0) → Type 0
IfSyntax (e.Syntax place name) P = P place name
IfSyntax (e.TooDeep place) P = Unit {0}
IfSyntax e.Memory P = Unit {0}

-- The function that a text declares without its body (docs/HOST.md, "Commands"; the AngelScript manual, "Calling a script
-- function"; what the text may be is this profile's own).
use Rattle.std.specs.Prelude.{◌≡◌, ℕ, false, List, [], ◌∷◌, ◌++◌, Option, Some, None, Result, Ok, Err}
use Rattle.std.specs.Result.{result_ok}
use Rattle.ang_lex.specs.declared.token.Token.{Token}
use Rattle.ang_lex.specs.declared.error.LexError.{LexError}
use Rattle.ang_lex.specs.Tokens.{tokens_of}
use Rattle.ang_tree.specs.declared.declaration.Script.{Script}
use Rattle.ang_tree.specs.Declarations.{Decl, function}
use Rattle.ang_tree.specs.View.{view_script}
use Rattle.ang_parse.specs.Answers.{script_of}
use Rattle.ang_types.specs.declared.asks.Refused.{Refused}
use Rattle.ang_names_known.specs.declared.names.Origin.{Origin}
use Rattle.ang_names_known.specs.declared.names.ScriptFunction.{ScriptFunction}
use Rattle.ang_names_known.specs.Spaces.{Space}
use Rattle.ang_names.specs.Refusals.{heading_refusal}
use Rattle.ang_names_classes.specs.Headings.{heading_of}

-- the text, a line end and `{}`
abbrev pub with_empty_body : List ℕ → List ℕ
with_empty_body decl = decl ++ 10 ∷ 123 ∷ 125 ∷ []

abbrev pub read_tokens : List ℕ → Result (List Token) LexError → Option (List Decl)
read_tokens text (Err fault) = None
read_tokens text (Ok tokens) = result_ok (script_of text tokens)

-- the declarations of a text that is a script
unfoldable pub declarations_in : List ℕ → Option (List Decl)
declarations_in text = read_tokens text (tokens_of 0 text)

-- what is read of a text: its script, or nothing where it is none
abbrev pub IsScript : Option Script → List ℕ → Option (List Decl) → Type 0
IsScript None text found = found ≡ None
IsScript (Some s) text found = (s.source.items ≡ text) × (found ≡ Some (view_script s))

-- where the text's function stands, which plays no part in what it names
abbrev pub nowhere : Origin
nowhere = record { script = 0; declaration = 0; variable = 0 }

abbrev pub unless_refused : Option Refused → ScriptFunction → Option ScriptFunction
unless_refused None f = Some f
unless_refused (Some r) f = None

-- the heading of a function in a section of these bytes, where each of its types can stand where it is written
abbrev pub heading_by : Space → List ℕ → Decl → Option ScriptFunction
heading_by E text (function y x ps b) = unless_refused (heading_refusal E text false x y ps.items) (heading_of E nowhere text x y ps.items)
heading_by E text _ = None

-- of a function, and nothing else
abbrev pub heading_of_one : Space → List ℕ → List Decl → Option ScriptFunction
heading_of_one E text (d ∷ []) = heading_by E text d
heading_of_one E text _ = None

abbrev pub heading_alone : Space → List ℕ → Option (List Decl) → Option ScriptFunction
heading_alone E text None = None
heading_alone E text (Some ds) = heading_of_one E text ds

-- The function that the text declares: with a line end and an empty body after it, it is a script of one function and nothing
-- else, each of whose types can stand where it is written.
unfoldable pub declared_by : Space → List ℕ → Option ScriptFunction
declared_by E decl = heading_alone E (with_empty_body decl) (declarations_in (with_empty_body decl))

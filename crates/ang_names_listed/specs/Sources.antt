-- Sections as they were read, and the errors at their tokens (docs/LANGUAGE.md, "Tokens": places; errors are this profile's own).
use Rattle.std.specs.Prelude.{ℕ, List, []}
use Rattle.ang_kinds.specs.declared.error.Error.{Error}
use Rattle.ang_kinds.specs.declared.error.ErrorKind.{ErrorKind}
use Rattle.ang_kinds.specs.declared.place.Place.{Place}
use Rattle.ang_lex.specs.declared.token.Token.{Token}
use Rattle.ang_lex.specs.Text.{text_of}
use Rattle.ang_tree.specs.declared.declaration.Script.{Script}
use Rattle.ang_tree.specs.Declarations.{Decl}
use Rattle.ang_tree.specs.View.{view_script}

-- a section as it was read: its bytes and its declarations
pub record Source : Type 0 where
  pub text : List ℕ
  pub declarations : List Decl

-- what contracts see of a script's tree
abbrev pub source_of : Script → Source
source_of s = record { text = s.source.items; declarations = view_script s }

-- an error at a token, with its text
abbrev pub error_at : ErrorKind → List ℕ → Token → Error
error_at kind text t = record { kind = kind; place = t.place; name = text_of text t }

-- an error without a name
abbrev pub fault_at : ErrorKind → Place → Error
fault_at kind place = record { kind = kind; place = place; name = [] }

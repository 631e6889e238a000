-- What the declaration of each host entity says (docs/HOST.md, "Declarations"). A text of another form, and one that
-- hosts can't use, declares nothing.
use Rattle.std.specs.Prelude.{ℕ, false, if◌then◌else◌, List, [], Option, Some, None, Result, Ok, Err}
use Rattle.ang_kinds.specs.declared.types.Signature.{Signature}
use Rattle.ang_kinds.specs.declared.types.TypeRef.TheVariants as type
use Rattle.ang_lex.specs.Spelling.{is_identifier}
use Rattle.ang_decl.specs.declared.error.DeclError.{DeclError}
use Rattle.ang_decl.specs.Parsed as text

abbrev pub signature_in : Result Signature DeclError → Option Signature
signature_in (Ok s) = Some s
signature_in (Err e) = None

-- `type NAME params`
abbrev pub declared_function : List ℕ → Option Signature
declared_function decl = signature_in (text.declared_function decl)

-- `type NAME params [ "const" ]`
abbrev pub declared_method : List ℕ → Option Signature
declared_method decl = signature_in (text.declared_method decl)

-- `T@ NAME params`
abbrev pub declared_factory : List ℕ → Option Signature
declared_factory decl = signature_in (text.declared_factory decl)

-- `[ "const" ] type NAME`
abbrev pub declared_property : List ℕ → Option Signature
declared_property decl = signature_in (text.declared_property decl)

-- a type, an enumeration or a value has a name, and nothing else
abbrev pub type_signature : List ℕ → Signature
type_signature name = record { name = name; result = type.Void; params = []; read_only = false }

-- A type is declared by its name, an identifier, and so are an enumeration and each of its values.
abbrev pub declared_type : List ℕ → Option Signature
declared_type name = if is_identifier name then Some (type_signature name) else None

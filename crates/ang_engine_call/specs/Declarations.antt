-- What a module declares at the top level, by kind and number (docs/HOST.md, "Besides commands").
use Rattle.std.specs.Prelude.{ℕ, ◌^◌, nat_lt, if◌then◌else◌, List, length, Option, Some, None, option_map, slice_get}
use Rattle.ang_view.specs.Registration.{RegistrationList}
use Rattle.ang_names_known.specs.declared.names.Names.{Names}
use Rattle.ang_engine_call.specs.declared.declarations.DeclarationKind.{DeclarationKind}
use Rattle.ang_engine_call.specs.declared.declarations.DeclarationKind.TheVariants.{Function, Global, Import}
use Rattle.ang_engine_call.specs.Named.{import_named_by}
use Rattle.ang_engine_call.specs.Texts.{function_text, global_text}

-- how many declarations of a kind there are
abbrev pub declared_count : DeclarationKind → Names → ℕ
declared_count Function names = length names.functions
declared_count Global names = length names.globals
declared_count Import names = length names.imports

-- the text of the declaration of a kind that has this number
abbrev pub declared_text : DeclarationKind → ℕ → RegistrationList → Names → Option (List ℕ)
declared_text Function n V names = option_map (function_text V names.families) (slice_get names.functions n)
declared_text Global n V names = option_map (global_text V names.families) (slice_get names.globals n)
declared_text Import n V names = option_map (function_text V names.families) (slice_get names.imports n)

-- ---- imports

-- a number that a binding can take: one of 32 bits, as each of the 256 imports that a module may have
abbrev pub bindable : Option ℕ → Option ℕ
bindable None = None
bindable (Some n) = if nat_lt n (2 ^ 32) then Some n else None

-- the number of the import that a text declares
abbrev pub declared_import : RegistrationList → Names → List ℕ → Option ℕ
declared_import V names decl = bindable (import_named_by V names decl)

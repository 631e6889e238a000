-- What a built module declares at the top level (docs/HOST.md, "Besides commands").
use Rattle.std.specs.Prelude.{ℕ, List, Option, Some, None, option_map, option_and_then}
use Rattle.ang_engine_call.specs.Declarations.{declared_count, declared_text, declared_import}
use Rattle.ang_engine_call.specs.declared.declarations.DeclarationKind.{DeclarationKind}
use Rattle.ang_engine_modules.specs.World.{Program, World, module_named, module_at}

abbrev pub program_at : Option ℕ → World → Option Program
program_at None w = None
program_at (Some i) w = (module_at w i).program

-- the program of the module of a name, where it is there and built
abbrev pub program_named : List ℕ → World → Option Program
program_named name w = program_at (module_named name w) w

-- how many declarations of a kind a program has
abbrev pub declared_in : DeclarationKind → Program → ℕ
declared_in kind p = declared_count kind p.names

-- the text of the declaration of a kind that has this number
abbrev pub text_in : DeclarationKind → ℕ → Program → Option (List ℕ)
text_in kind n p = declared_text kind n p.view p.names

-- of the module of a name
abbrev pub declared_by : List ℕ → DeclarationKind → World → Option ℕ
declared_by name kind w = option_map (declared_in kind) (program_named name w)

abbrev pub text_by : List ℕ → DeclarationKind → ℕ → World → Option (List ℕ)
text_by name kind n w = option_and_then (text_in kind n) (program_named name w)

-- ---- imports

-- the number of the import that a text declares
abbrev pub import_in : Program → List ℕ → Option ℕ
import_in p decl = declared_import p.view p.names decl

abbrev pub import_by : List ℕ → List ℕ → World → Option ℕ
import_by name decl w = option_and_then (λ p. import_in p decl) (program_named name w)

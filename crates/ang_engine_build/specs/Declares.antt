-- What names declare over a view, as callers find and spell it (docs/HOST.md, "Commands" and "Besides commands").
use Rattle.std.specs.Prelude.{◌≡◌, ℕ, List}
use Rattle.ang_view.specs.Registration.{RegistrationList}
use Rattle.ang_names_known.specs.declared.names.Names.{Names}
use Rattle.ang_engine_call.specs.declared.declarations.DeclarationKind.{DeclarationKind}
use Rattle.ang_engine_call.specs.Declarations.{declared_text, declared_import}
use Rattle.ang_engine_call.specs.Named.{function_named_by}

-- Over either view names declare the same: each declaration has one text, and a text declares one function and one import.
pub record DeclareSame (V W : RegistrationList) (names : Names) : Type 0 where
  pub texts : (kind : DeclarationKind) (n : ℕ) → declared_text kind n W names ≡ declared_text kind n V names
  pub functions : (decl : List ℕ) → function_named_by W names decl ≡ function_named_by V names decl
  pub imports : (decl : List ℕ) → declared_import W names decl ≡ declared_import V names decl

-- Types that pass between modules: each one of an import is a number's, or a handle to a type of the host that its module sees.
use Rattle.std.specs.Prelude.{◌≡◌, List}
use Rattle.ang_tree.specs.Stmt.{Every}
use Rattle.ang_view.specs.Registration.{RegistrationList}
use Rattle.ang_names_known.specs.declared.names.Names.{Names}
use Rattle.ang_names_known.specs.declared.names.ScriptFunction.{ScriptFunction}
use Rattle.ang_names_known.specs.declared.names.ScriptParameter.{ScriptParameter}
use Rattle.ang_names_listed.specs.declared.listed.ListedDeclaration.{ListedDeclaration}
use Rattle.ang_names_listed.specs.Declarations.{declarations_of}
use Rattle.ang_names_listed.specs.Sources.{Source}
use Rattle.ang_names_classes.specs.Resolved.{names_of}
use Rattle.ang_check_laws.specs.HostTypes.{IsSeenType, ImportsAreOfTheHost}

pub record IsOfTheHost (V : RegistrationList) (f : ScriptFunction) : Type 0 where
  pub params : Every (λ (p : ScriptParameter). IsSeenType V p.written.ty) f.params
  pub result : IsSeenType V f.result.ty

-- Whether or not a phase refuses something: a type that does not pass stands as `void`.
abbrev pub EachImportIsOfTheHost : Type 0
EachImportIsOfTheHost = (V : RegistrationList) (ds : List ListedDeclaration) → Every (IsOfTheHost V) (names_of V ds).imports

abbrev pub BuiltImportsAreOfTheHost : Type 0
BuiltImportsAreOfTheHost = (V : RegistrationList) (names : Names) (ss : List Source) → names ≡ names_of V (declarations_of ss) → ImportsAreOfTheHost V names

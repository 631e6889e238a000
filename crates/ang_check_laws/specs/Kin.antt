-- What stands above a family of a build: its base class, and each family in its order; and the classes' tables are typed where nothing is refused.
use Rattle.std.specs.Prelude.{◌≡◌, ◌==◌, ℕ, true, List, [], Some, slice_get}
use Rattle.std.specs.List.{list_any}
use Rattle.ang_view.specs.Registration.{RegistrationList}
use Rattle.ang_names_known.specs.declared.names.Family.{Family}
use Rattle.ang_names_known.specs.declared.names.Names.{Names}
use Rattle.ang_names_known.specs.Lookup.{is_under}
use Rattle.ang_names_listed.specs.declared.listed.ListedDeclaration.{ListedDeclaration}
use Rattle.ang_names_listed.specs.Declarations.{declarations_of}
use Rattle.ang_names_listed.specs.Sources.{Source}
use Rattle.ang_names_classes.specs.Resolved.{names_of}
use Rattle.ang_names.specs.Phases.{refusals_of}
use Rattle.ang_meaning.specs.Environment.{Environment}
use Rattle.ang_source_typed.specs.Types.{Modules}
use Rattle.ang_source_typed.specs.TypedProgram.{AreClasses}
use Rattle.ang_check_laws.specs.Given.{IsBuilt}

abbrev pub TablesAreTyped : Type 0
TablesAreTyped = (V : RegistrationList) (names : Names) (ss : List Source) (z : Environment) (ms : Modules) (m : ℕ)
    → refusals_of V ss ≡ [] → names ≡ names_of V (declarations_of ss) → IsBuilt z ms m V names ss → AreClasses z ms m

abbrev pub BasesStandAbove : Type 0
BasesStandAbove = (V : RegistrationList) (names : Names) (ds : List ListedDeclaration) → names ≡ names_of V ds → (c b : ℕ) (f : Family)
    → slice_get names.families c ≡ Some f → f.base ≡ Some b → list_any (λ k. k == b) f.above ≡ true

abbrev pub OrdersStandAbove : Type 0
OrdersStandAbove = (V : RegistrationList) (names : Names) (ds : List ListedDeclaration) → names ≡ names_of V ds → (c k : ℕ) (f : Family)
    → slice_get names.families c ≡ Some f → list_any (λ j. j == k) f.order ≡ true → is_under names.families c k ≡ true

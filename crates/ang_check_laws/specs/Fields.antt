-- Where the fields of a build's classes stand.
use Rattle.std.specs.Prelude.{◌≡◌, ℕ, List, [], Some, slice_get}
use Rattle.ang_view.specs.Registration.{RegistrationList}
use Rattle.ang_names_known.specs.declared.names.FoundField.{FoundField}
use Rattle.ang_names_known.specs.declared.names.Names.{Names}
use Rattle.ang_names_known.specs.Lookup.{field_named}
use Rattle.ang_names_listed.specs.Declarations.{declarations_of}
use Rattle.ang_names_listed.specs.Sources.{Source}
use Rattle.ang_names_classes.specs.Resolved.{names_of}
use Rattle.ang_names.specs.Phases.{refusals_of}
use Rattle.ang_meaning.specs.Environment.{Environment}
use Rattle.ang_source_typed.specs.Types.{Modules, field_types}
use Rattle.ang_check_laws.specs.Contexts.{place_type}
use Rattle.ang_check_laws.specs.Given.{IsBuilt}

-- The field of a name stands where its number says, and is of the type that it is written with.
abbrev pub FieldsStand : Type 0
FieldsStand = (V : RegistrationList) (names : Names) (ss : List Source) (z : Environment) (ms : Modules) (m : ℕ)
    → refusals_of V ss ≡ [] → names ≡ names_of V (declarations_of ss) → IsBuilt z ms m V names ss
    → (c : ℕ) (name : List ℕ) (f : FoundField) → field_named names.families c name ≡ Some f
    → slice_get (field_types ms m c) f.number ≡ Some (place_type z ms m f.written.ty)

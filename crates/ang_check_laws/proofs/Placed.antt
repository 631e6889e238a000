-- Words for what is said of an entry that may be missing: of a declaration, and of a family.
use Rattle.std.specs.Prelude.{ℕ, Bool, false, List, [], Option}
use Rattle.std.specs.Option.{option_map_or}
use Rattle.ang_names_known.specs.declared.names.Family.{Family}
use Rattle.ang_names_known.specs.declared.names.Written.{Written}
use Rattle.ang_names_known.specs.Lookup.{Numbered, families_at}
use Rattle.ang_names_known.specs.Spaces.{Space}
use Rattle.ang_names_listed.specs.Declarations.{Declaring}
use Rattle.ang_names_classes.specs.Hierarchy.{field_types}

abbrev pub is_class_in : Option Declaring → Bool
is_class_in o = option_map_or (λ (d : Declaring). d.shape.is_class) o false

abbrev pub field_types_in : Space → Option Declaring → List Written
field_types_in E o = option_map_or (field_types E) o []

abbrev pub kin_in : List Family → Option Family → List Numbered
kin_in fs o = option_map_or (λ (f : Family). families_at fs f.order) o []

-- the numbers of all families above it
abbrev pub above_of : Option Family → List ℕ
above_of o = option_map_or (λ (f : Family). f.above) o []

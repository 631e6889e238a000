-- The types and enumerations of a registration list by name (docs/HOST.md, "Registration").
use Rattle.std.specs.Prelude.{ℕ, Bool, true, false, ◌&&◌, List, Option, Some, None}
use Rattle.std.specs.List.{position}
use Rattle.std.specs.Option.{option_map_or}
use Rattle.std.specs.Str.{bytes_eq}
use Rattle.ang_kinds.specs.declared.mask.EntityNo.{EntityNo}
use Rattle.ang_view.specs.declared.entry.Entry.{Entry}
use Rattle.ang_view.specs.declared.entry.EntryKind.{EntryKind}
use Rattle.ang_view.specs.declared.entry.EntryKind.TheVariants.{Enumeration}
use Rattle.ang_view.specs.Registration.{RegistrationList, entry_at, is_host_type}

abbrev pub is_type_named : List ℕ → Option Entry → Bool
is_type_named name None = false
is_type_named name (Some t) = is_host_type t.kind && bytes_eq t.signature.name name

-- the place of the type of host objects of this name
unfoldable pub type_named : RegistrationList → List ℕ → Option ℕ
type_named list name = position (is_type_named name) list

abbrev pub is_enumeration : EntryKind → Bool
is_enumeration Enumeration = true
is_enumeration _ = false

abbrev pub is_enumeration_named : List ℕ → Option Entry → Bool
is_enumeration_named name None = false
is_enumeration_named name (Some t) = is_enumeration t.kind && bytes_eq t.signature.name name

-- the place of the enumeration of this name
unfoldable pub enumeration_named : RegistrationList → List ℕ → Option ℕ
enumeration_named list name = position (is_enumeration_named name) list

-- the type's number
abbrev pub number_at : Option ℕ → Option EntityNo
number_at None = None
number_at (Some n) = Some (record { 0 = n })

-- the type's driver
abbrev pub driver_at : RegistrationList → Option ℕ → ℕ
driver_at list None = 0
driver_at list (Some n) = option_map_or (λ (t : Entry). t.driver) (entry_at list n) 0

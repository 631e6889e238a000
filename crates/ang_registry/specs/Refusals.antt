-- When a registration is refused, and what it adds (docs/HOST.md, "Registration").
use Rattle.std.specs.Prelude.{ℕ, ℤ, ◌==◌, Bool, false, not, ◌||◌, is_none, nat_le, nat_lt, if◌then◌else◌, List, [], ◌∷◌, ◌++◌, length, Option, Some, None}
use Rattle.ang_kinds.specs.declared.mask.EntityNo.{EntityNo}
use Rattle.ang_kinds.specs.declared.types.Signature.{Signature}
use Rattle.ang_view.specs.declared.entry.Entry.{Entry}
use Rattle.ang_view.specs.declared.entry.EntryKind.{EntryKind}
use Rattle.ang_view.specs.declared.entry.EntryKind.TheVariants.{HostType, Factory, Method, Property, Function, Global, Enumeration, EnumValue}
use Rattle.ang_registry.specs.declared.error.RegError.{RegError}
use Rattle.ang_registry.specs.declared.error.RegError.TheVariants.{Limit, EmptyMask, BadDeclaration, UnknownType, WrongDriver, Duplicate}
use Rattle.ang_view.specs.Named.{is_factory}
use Rattle.ang_view.specs.Registration.{RegistrationList, is_spelled_with}
use Rattle.ang_registry.specs.Registrations.{Registrations}
use Rattle.ang_registry.specs.Overloads.{is_taken}
use Rattle.ang_registry.specs.Types.{settled, is_misused, names_unknown, is_wrong_driver, mask_at}
use Rattle.ang_view.specs.Types.{type_named, enumeration_named, number_at, driver_at}

-- the error of the first row that applies
abbrev pub first_row : {E : Type 0} → List (Bool × E) → Option E
first_row [] = None
first_row (x ∷ rest) = if x.0 then Some x.1 else first_row rest

-- ---- tests of what is declared, where something is

abbrev pub where_declared : (Signature → Bool) → Option Signature → Bool
where_declared test None = false
where_declared test (Some s) = test s

abbrev pub has_many_parameters : Signature → Bool
has_many_parameters s = nat_lt 32 (length s.params)

-- 1,024 entries are there, or more than 32 parameters
unfoldable pub is_over_limit : RegistrationList → Option Signature → Bool
is_over_limit list declared = nat_le 1024 (length list) || where_declared has_many_parameters declared

-- a factory gives a handle to its own type, the one of this name
unfoldable pub gives_own : EntryKind → List ℕ → Signature → Bool
gives_own kind type_name s = not (is_factory kind) || is_spelled_with type_name s.result

-- the last rows, of an entry whose owner and driver are known
abbrev pub refusal_of_entry : RegistrationList → EntryKind → Option EntityNo → ℕ → Signature → Option RegError
refusal_of_entry list kind owner driver s = first_row (
    (names_unknown list s, UnknownType) ∷
    (is_wrong_driver list kind driver s, WrongDriver) ∷
    (is_taken list kind owner s, Duplicate) ∷
    [])

-- ---- the table, for what is declared over the whole list

-- Why an entry that belongs to no type, as one of a driver, is refused: the first row that applies.
unfoldable pub refusal_of_own : EntryKind → Registrations → ℕ → Option Signature → Option RegError
refusal_of_own kind r driver declared = first_row (
    (is_over_limit r.entries declared, Limit) ∷
    (r.default_mask.0 == 0, EmptyMask) ∷
    (is_none declared || where_declared (is_misused r.entries) declared, BadDeclaration) ∷
    (where_declared (names_unknown r.entries) declared, UnknownType) ∷
    (where_declared (is_wrong_driver r.entries kind driver) declared, WrongDriver) ∷
    (where_declared (is_taken r.entries kind None) declared, Duplicate) ∷
    [])

-- Why an entry that belongs to the type of this name, at this place, is refused: the first row that applies. Its driver is
-- the type's.
abbrev pub refusal_in_type : EntryKind → Registrations → List ℕ → Option ℕ → Option Signature → Option RegError
refusal_in_type kind r type_name place declared = first_row (
    (is_over_limit r.entries declared, Limit) ∷
    (r.default_mask.0 == 0, EmptyMask) ∷
    (not (where_declared (gives_own kind type_name) declared) || where_declared (is_misused r.entries) declared, BadDeclaration) ∷
    (is_none place || where_declared (names_unknown r.entries) declared, UnknownType) ∷
    (where_declared (is_wrong_driver r.entries kind (driver_at r.entries place)) declared, WrongDriver) ∷
    (where_declared (is_taken r.entries kind (number_at place)) declared, Duplicate) ∷
    [])

unfoldable pub refusal_of_member : EntryKind → Registrations → List ℕ → Option Signature → Option RegError
refusal_of_member kind r type_name declared = refusal_in_type kind r type_name (type_named r.entries type_name) declared

-- Why a value of the enumeration at this place is refused: the first row that applies. It has the enumeration's mask, whatever
-- the default one.
abbrev pub refusal_in_enumeration : ℤ → Registrations → Option ℕ → Option Signature → Option RegError
refusal_in_enumeration value r place declared = first_row (
    (is_over_limit r.entries declared, Limit) ∷
    (is_none declared, BadDeclaration) ∷
    (is_none place, UnknownType) ∷
    (where_declared (is_taken r.entries (EnumValue value) (number_at place)) declared, Duplicate) ∷
    [])

-- what a call declares is settled over the list
abbrev pub refusal_of_declared : EntryKind → Registrations → ℕ → Option Signature → Option RegError
refusal_of_declared kind r driver declared = refusal_of_own kind r driver (settled r.entries declared)

abbrev pub refusal_of_declared_member : EntryKind → Registrations → List ℕ → Option Signature → Option RegError
refusal_of_declared_member kind r type_name declared = refusal_of_member kind r type_name (settled r.entries declared)

-- ---- what is added

-- one more entry, or a blank, stands last; all else stays
abbrev pub with_last : Registrations → Option Entry → Registrations
with_last r x = record r { entries = r.entries ++ x ∷ [] }

-- an entry under the default mask
abbrev pub with_entry : Registrations → EntryKind → Option EntityNo → ℕ → ℕ → Signature → Registrations
with_entry r kind owner driver f s =
    with_last r (Some (record { kind = kind; owner = owner; driver = driver; f = f; signature = s; mask = r.default_mask }))

-- An entry that belongs to no type.
abbrev pub with_own : EntryKind → Registrations → ℕ → ℕ → Option Signature → Registrations
with_own kind r driver f None = r
with_own kind r driver f (Some s) = with_entry r kind None driver f s

abbrev pub with_entry_in : EntryKind → Registrations → Option ℕ → ℕ → Option Signature → Registrations
with_entry_in kind r place f None = r
with_entry_in kind r place f (Some s) = with_entry r kind (number_at place) (driver_at r.entries place) f s

-- An entry that belongs to the type of this name. Its driver is the type's.
abbrev pub with_member : EntryKind → Registrations → List ℕ → ℕ → Option Signature → Registrations
with_member kind r type_name f declared = with_entry_in kind r (type_named r.entries type_name) f declared

-- What a call declares is settled over the list.
abbrev pub with_declared : EntryKind → Registrations → ℕ → ℕ → Option Signature → Registrations
with_declared kind r driver f declared = with_own kind r driver f (settled r.entries declared)

abbrev pub with_declared_member : EntryKind → Registrations → List ℕ → ℕ → Option Signature → Registrations
with_declared_member kind r type_name f declared = with_member kind r type_name f (settled r.entries declared)

-- A value of the enumeration at this place, under its mask. It has no driver.
abbrev pub with_value_at : ℤ → Registrations → Option ℕ → Option Signature → Registrations
with_value_at value r place None = r
with_value_at value r place (Some s) =
    with_last r (Some (record { kind = EnumValue value; owner = number_at place; driver = 0; f = 0; signature = s; mask = mask_at r.entries place }))

-- ---- call by call

-- A type, declared by its name. It has no function of its driver.
abbrev pub refusal_of_type : Registrations → ℕ → Option Signature → Option RegError
refusal_of_type = refusal_of_declared HostType

abbrev pub with_type : Registrations → ℕ → Option Signature → Registrations
with_type r driver declared = with_declared HostType r driver 0 declared

abbrev pub refusal_of_factory : Registrations → List ℕ → Option Signature → Option RegError
refusal_of_factory = refusal_of_declared_member Factory

abbrev pub with_factory : Registrations → List ℕ → ℕ → Option Signature → Registrations
with_factory = with_declared_member Factory

abbrev pub refusal_of_method : Registrations → List ℕ → Option Signature → Option RegError
refusal_of_method = refusal_of_declared_member Method

abbrev pub with_method : Registrations → List ℕ → ℕ → Option Signature → Registrations
with_method = with_declared_member Method

abbrev pub refusal_of_property : Registrations → List ℕ → Option Signature → Option RegError
refusal_of_property = refusal_of_declared_member Property

abbrev pub with_property : Registrations → List ℕ → ℕ → Option Signature → Registrations
with_property = with_declared_member Property

abbrev pub refusal_of_function : Registrations → ℕ → Option Signature → Option RegError
refusal_of_function = refusal_of_declared Function

abbrev pub with_function : Registrations → ℕ → ℕ → Option Signature → Registrations
with_function = with_declared Function

abbrev pub refusal_of_global : Registrations → ℕ → Option Signature → Option RegError
refusal_of_global = refusal_of_declared Global

abbrev pub with_global : Registrations → ℕ → ℕ → Option Signature → Registrations
with_global = with_declared Global

-- An enumeration, declared by its name. It has no driver.
abbrev pub refusal_of_enumeration : Registrations → Option Signature → Option RegError
refusal_of_enumeration r declared = refusal_of_declared Enumeration r 0 declared

abbrev pub with_enumeration : Registrations → Option Signature → Registrations
with_enumeration r declared = with_declared Enumeration r 0 0 declared

-- A value of the enumeration of this name, declared by its own name.
unfoldable pub refusal_of_value : Registrations → List ℕ → ℤ → Option Signature → Option RegError
refusal_of_value r enum_name value declared = refusal_in_enumeration value r (enumeration_named r.entries enum_name) declared

abbrev pub with_value : Registrations → List ℕ → ℤ → Option Signature → Registrations
with_value r enum_name value declared = with_value_at value r (enumeration_named r.entries enum_name) declared

-- A blank has no mask and no declaration.
abbrev pub refusal_of_blank : Registrations → Option RegError
refusal_of_blank r = if nat_le 1024 (length r.entries) then Some Limit else None

abbrev pub with_blank : Registrations → Registrations
with_blank r = with_last r None

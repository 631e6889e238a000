-- The types that a declaration names, by name and by driver, and which of them are enumerations (docs/HOST.md, "Registration").
use Rattle.std.specs.Prelude.{ℕ, Bool, true, false, not, ◌==◌, ◌&&◌, ◌||◌, nat_lt, is_some, if◌then◌else◌, List, map, Option, Some, None}
use Rattle.std.specs.List.{list_any, list_all}
use Rattle.ang_kinds.specs.declared.mask.Mask.{Mask}
use Rattle.ang_kinds.specs.declared.types.Param.{Param}
use Rattle.ang_kinds.specs.declared.types.Signature.{Signature}
use Rattle.ang_kinds.specs.declared.types.TypeRef.{TypeRef}
use Rattle.ang_kinds.specs.declared.types.TypeRef.TheVariants.{Enumeration, Object}
use Rattle.ang_view.specs.declared.entry.Entry.{Entry}
use Rattle.ang_view.specs.declared.entry.EntryKind.{EntryKind}
use Rattle.ang_view.specs.Registration.{RegistrationList, entry_at, is_host_type, mentions}
use Rattle.ang_view.specs.Types.{type_named, enumeration_named}
use Rattle.ang_registry.specs.Overloads.{is_handle}

-- ---- enumerations

abbrev pub has_enumeration : RegistrationList → List ℕ → Bool
has_enumeration list name = is_some (enumeration_named list name)

-- The type that is written, over the whole list: a bare name that an enumeration has means the enumeration.
abbrev pub settled_type : RegistrationList → TypeRef → TypeRef
settled_type list (Object name shape const_object const_handle) =
    if not (is_handle shape) && has_enumeration list name then Enumeration name else Object name shape const_object const_handle
settled_type list ty = ty

abbrev pub settled_param : RegistrationList → Param → Param
settled_param list p = record { ty = settled_type list p.ty; pass = p.pass; read_only = p.read_only; name = p.name }

abbrev pub settled_signature : RegistrationList → Signature → Signature
settled_signature list s = record {
  name = s.name;
  result = settled_type list s.result;
  params = map (settled_param list) s.params;
  read_only = s.read_only;
}

-- what a text declares, over the whole list
abbrev pub settled : RegistrationList → Option Signature → Option Signature
settled list None = None
settled list (Some s) = Some (settled_signature list s)

-- an object type without `@`, or an enumeration with one
abbrev pub is_misused_type : RegistrationList → TypeRef → Bool
is_misused_type list (Object name shape const_object const_handle) =
    if is_handle shape then has_enumeration list name else is_some (type_named list name)
is_misused_type list _ = false

unfoldable pub is_misused : RegistrationList → Signature → Bool
is_misused list s = is_misused_type list s.result || list_any (λ p. is_misused_type list p.ty) s.params

abbrev pub mask_by : Option Entry → Mask
mask_by None = record { 0 = 0 }
mask_by (Some t) = t.mask

-- the enumeration's mask, which its values have too
abbrev pub mask_at : RegistrationList → Option ℕ → Mask
mask_at list None = record { 0 = 0 }
mask_at list (Some n) = mask_by (entry_at list n)

-- ---- by name

-- a type that a declaration may name: a primitive one, `void`, or a registered one
abbrev pub is_known : RegistrationList → TypeRef → Bool
is_known list (Enumeration name) = has_enumeration list name
is_known list (Object name shape const_object const_handle) = is_some (type_named list name)
is_known list _ = true

-- Some type that the signature names isn't registered, in the whole list, whatever the masks.
unfoldable pub names_unknown : RegistrationList → Signature → Bool
names_unknown list s = not (is_known list s.result && list_all (λ p. is_known list p.ty) s.params)

-- ---- by driver

abbrev pub is_type_of : ℕ → Option Entry → Bool
is_type_of driver None = false
is_type_of driver (Some t) = is_host_type t.kind && t.driver == driver

-- the entry is an object type of another driver, and the signature names it
abbrev pub is_foreign : Signature → ℕ → Option Entry → Bool
is_foreign s driver None = false
is_foreign s driver (Some t) = is_host_type t.kind && mentions s t.signature.name && not (t.driver == driver)

-- The driver's number is above 63, or it has a type and this would be the second, or the signature names an object type of
-- another driver.
unfoldable pub is_wrong_driver : RegistrationList → EntryKind → ℕ → Signature → Bool
is_wrong_driver list kind driver s =
    nat_lt 63 driver || (is_host_type kind && list_any (is_type_of driver) list) || list_any (is_foreign s driver) list

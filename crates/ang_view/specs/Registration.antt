-- What a registry holds, and what a module of a mask sees of it (docs/HOST.md, "Registration" and "Masks";
-- the AngelScript manual, "Access masks and exposing different interfaces").
use Rattle.std.specs.Prelude.{ℕ, ◌≡◌, Bool, true, false, ◌==◌, not, ◌&&◌, ◌||◌, if◌then◌else◌, List, map, filter, length, Option, Some, None, slice_index_or}
use Rattle.std.specs.List.{list_any, list_all, range_with_len, position}
use Rattle.std.specs.Str.{bytes_eq}
use Rattle.ang_kinds.specs.Masks.{meets}
use Rattle.ang_kinds.specs.declared.mask.EntityNo.{EntityNo}
use Rattle.ang_kinds.specs.declared.types.Signature.{Signature}
use Rattle.ang_kinds.specs.declared.types.TypeRef.{TypeRef}
use Rattle.ang_kinds.specs.declared.types.TypeRef.TheVariants as ref
use Rattle.ang_view.specs.declared.entry.Entry.{Entry}
use Rattle.ang_view.specs.declared.entry.EntryKind.{EntryKind}
use Rattle.ang_view.specs.declared.entry.EntryKind.TheVariants.{HostType, Function, Enumeration}

-- The registration list: the entries in the order of registration, numbered from 0. `None` is a blank.
abbrev pub RegistrationList : Type 0
RegistrationList = List (Option Entry)

-- the entry of a number: none at a blank, and none past the end
abbrev pub entry_at : RegistrationList → ℕ → Option Entry
entry_at list n = slice_index_or list n None

-- ---- the types that a declaration names

-- the types that declarations can name: types of host objects, and enumerations
abbrev pub is_type : EntryKind → Bool
is_type HostType = true
is_type Enumeration = true
is_type _ = false

-- the types of host objects
abbrev pub is_host_type : EntryKind → Bool
is_host_type HostType = true
is_host_type _ = false

-- whether a type is spelled with this name
abbrev pub is_spelled_with : List ℕ → TypeRef → Bool
is_spelled_with name (ref.Enumeration own) = bytes_eq own name
is_spelled_with name (ref.Object own shape const_object const_handle) = bytes_eq own name
is_spelled_with name _ = false

-- whether a signature names the type of this name, in its result or in a parameter
abbrev pub mentions : Signature → List ℕ → Bool
mentions s name = is_spelled_with name s.result || list_any (λ p. is_spelled_with name p.ty) s.params

abbrev pub is_number : ℕ → Option EntityNo → Bool
is_number n None = false
is_number n (Some e) = e.0 == n

-- whether the declaration of x names entry n: a type that its signature names, or its own type; a type names nothing, and a value
-- of an enumeration names that one
abbrev pub is_named_by : Entry → ℕ → Option Entry → Bool
is_named_by x n None = false
is_named_by x n (Some t) = not (is_type x.kind) && is_type t.kind && (is_number n x.owner || mentions x.signature t.signature.name)

-- The numbers of the types that the declaration of x names; a factory, method or object property names its own type
-- too, a value of an enumeration its enumeration, and a type names none.
unfoldable pub named : RegistrationList → Entry → List ℕ
named list x = filter (λ n. is_named_by x n (entry_at list n)) (range_with_len 0 (length list))

-- ---- the view of a mask

abbrev pub has_mask_for : ℕ → Option Entry → Bool
has_mask_for m None = false
has_mask_for m (Some t) = meets t.mask.0 m

-- A module of mask m sees an entry whose own mask meets m, if the masks of all types that it names do.
unfoldable pub is_seen : RegistrationList → ℕ → Entry → Bool
is_seen list m x = meets x.mask.0 m && list_all (λ n. has_mask_for m (entry_at list n)) (named list x)

abbrev pub seen_entry : RegistrationList → ℕ → Option Entry → Option Entry
seen_entry list m None = None
seen_entry list m (Some x) = if is_seen list m x then Some x else None

-- The list as a module of mask m sees it: every entry that it does not see is blanked, and the numbers stay.
unfoldable pub seen : RegistrationList → ℕ → RegistrationList
seen list m = map (seen_entry list m) list

-- ---- functions by name

abbrev pub is_function : EntryKind → Bool
is_function Function = true
is_function _ = false

abbrev pub is_function_named : List ℕ → Option Entry → Bool
is_function_named name None = false
is_function_named name (Some x) = is_function x.kind && bytes_eq x.signature.name name

-- the number of the first function of this name
abbrev pub function_named : RegistrationList → List ℕ → Option ℕ
function_named list name = position (is_function_named name) list

-- Entry n is a function of this name, and a module of mask m sees it.
pub record SeesFunction (list : RegistrationList) (m : ℕ) (name : List ℕ) (n : ℕ) : Type 0 where
  pub entry : Entry
  pub registered : entry_at list n ≡ Some entry
  pub is_in_view : entry_at (seen list m) n ≡ Some entry
  pub is_function : entry.kind ≡ Function
  pub has_name : entry.signature.name ≡ name

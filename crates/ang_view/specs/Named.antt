-- The entries of a list by name, members and factories by type, and values by their own names (docs/LANGUAGE.md, "Names of a build"), as filters of the list's
-- numbers; and the same as an index keeps them.
use Rattle.std.specs.Prelude.{ℕ, ◌≡◌, ◌+◌, ◌*◌, ◌==◌, Bool, true, false, ◌&&◌, if◌then◌else◌, List, [], ◌∷◌, ◌++◌, filter, length, map, Option, Some, None, bytes_eq}
use Rattle.std.specs.List.{range_with_len}
use Rattle.ang_index.specs.Rows.{Rows, items_at}
use Rattle.ang_kinds.specs.declared.mask.EntityNo.{EntityNo}
use Rattle.ang_view.specs.declared.entry.Entry.{Entry}
use Rattle.ang_view.specs.declared.entry.EntryKind.{EntryKind}
use Rattle.ang_view.specs.declared.entry.EntryKind.TheVariants.{HostType, Factory, Method, Property, Function, Global, Enumeration, EnumValue}
use Rattle.ang_view.specs.Hidden.{numbers_of}
use Rattle.ang_view.specs.Registration.{RegistrationList, entry_at, is_number, is_type}

-- ---- what is looked for

-- types, enumerations, functions and global properties, which are used by their names alone
abbrev pub is_bare : EntryKind → Bool
is_bare HostType = true
is_bare Function = true
is_bare Global = true
is_bare Enumeration = true
is_bare _ = false

-- methods and properties of objects, and values of enumerations
abbrev pub is_member_kind : EntryKind → Bool
is_member_kind Method = true
is_member_kind Property = true
is_member_kind (EnumValue v) = true
is_member_kind _ = false

abbrev pub is_factory : EntryKind → Bool
is_factory Factory = true
is_factory _ = false

abbrev pub is_value : EntryKind → Bool
is_value (EnumValue v) = true
is_value _ = false

-- a type, enumeration, function or global property of this name
abbrev pub has_name : List ℕ → Option Entry → Bool
has_name name None = false
has_name name (Some x) = is_bare x.kind && bytes_eq x.signature.name name

-- a method or property of this name, of the type of number t, or a value of the enumeration of that number
abbrev pub is_member : ℕ → List ℕ → Option Entry → Bool
is_member t name None = false
is_member t name (Some x) = is_member_kind x.kind && (is_number t x.owner && bytes_eq x.signature.name name)

-- a factory of the type of number t
abbrev pub makes : ℕ → Option Entry → Bool
makes t None = false
makes t (Some x) = is_factory x.kind && is_number t x.owner

-- a value of this name, of whatever enumeration
abbrev pub is_value_named : List ℕ → Option Entry → Bool
is_value_named name None = false
is_value_named name (Some x) = is_value x.kind && bytes_eq x.signature.name name

abbrev pub is_type_entry : Option Entry → Bool
is_type_entry None = false
is_type_entry (Some x) = is_type x.kind

-- ---- what is found

-- The numbers of the types, enumerations, functions and global properties of a name.
unfoldable pub find : RegistrationList → List ℕ → List ℕ
find V name = filter (λ n. has_name name (entry_at V n)) (numbers_of V)

-- The numbers of the methods and properties of a name whose type has the number t, and of the values of a name of the enumeration of
-- that number, whether or not the list has it.
unfoldable pub owned : RegistrationList → ℕ → List ℕ → List ℕ
owned V t name = filter (λ n. is_member t name (entry_at V n)) (numbers_of V)

-- The same of a type or enumeration that the list has.
abbrev pub members : RegistrationList → ℕ → List ℕ → List ℕ
members V t name = if is_type_entry (entry_at V t) then owned V t name else []

-- The numbers of the factories whose type has the number t, whether or not the list has that type.
unfoldable pub makers : RegistrationList → ℕ → List ℕ
makers V t = filter (λ n. makes t (entry_at V n)) (numbers_of V)

-- The same of a type that the list has.
abbrev pub factories : RegistrationList → ℕ → List ℕ
factories V t = if is_type_entry (entry_at V t) then makers V t else []

-- The numbers of the values of a name, of whatever enumerations.
unfoldable pub values_named : RegistrationList → List ℕ → List ℕ
values_named V name = filter (λ n. is_value_named name (entry_at V n)) (numbers_of V)

-- the first of these numbers that passes a test
abbrev pub first_of : (ℕ → Bool) → List EntityNo → Option ℕ
first_of test [] = None
first_of test (e ∷ es) = if test e.0 then Some e.0 else first_of test es

-- ---- as an index keeps them

abbrev pub shifted : ℕ → Option EntityNo → Option ℕ
shifted k None = None
shifted k (Some e) = Some (2 * e.0 + k)

-- The scope in which an entry stands: all that is used by its name alone in scope 0, members of the type of number t and values of the
-- enumeration of that number in scope 2 t + 1, and factories of that type in scope 2 t + 2.
abbrev pub scope_by : EntryKind → Option EntityNo → Option ℕ
scope_by HostType owner = Some 0
scope_by Factory owner = shifted 2 owner
scope_by Method owner = shifted 1 owner
scope_by Property owner = shifted 1 owner
scope_by Function owner = Some 0
scope_by Global owner = Some 0
scope_by Enumeration owner = Some 0
scope_by (EnumValue v) owner = shifted 1 owner

abbrev pub scope_in : Option Entry → Option ℕ
scope_in None = None
scope_in (Some x) = scope_by x.kind x.owner

-- by what name it stands there: factories go by their type alone
abbrev pub name_by : EntryKind → List ℕ → List ℕ
name_by HostType name = name
name_by Factory name = []
name_by Method name = name
name_by Property name = name
name_by Function name = name
name_by Global name = name
name_by Enumeration name = name
name_by (EnumValue v) name = name

abbrev pub name_in : Option Entry → List ℕ
name_in None = []
name_in (Some x) = name_by x.kind x.signature.name

abbrev pub is_scope : ℕ → Option ℕ → Bool
is_scope s None = false
is_scope s (Some t) = t == s

-- Values stand once more in an index of their own, all in scope 0, so that they are found without their enumeration.
abbrev pub value_scope_by : EntryKind → Option ℕ
value_scope_by HostType = None
value_scope_by Factory = None
value_scope_by Method = None
value_scope_by Property = None
value_scope_by Function = None
value_scope_by Global = None
value_scope_by Enumeration = None
value_scope_by (EnumValue v) = Some 0

abbrev pub value_scope_in : Option Entry → Option ℕ
value_scope_in None = None
value_scope_in (Some x) = value_scope_by x.kind

-- in what scope of an index an entry stands, and whether in any
abbrev pub Scopes : Type 0
Scopes = Option Entry → Option ℕ

abbrev pub stands_under : Scopes → ℕ → List ℕ → Option Entry → Bool
stands_under scope_of s name o = is_scope s (scope_of o) && bytes_eq (name_in o) name

-- those of the first n numbers that stand under a scope's number and a name
unfoldable pub numbers_under : Scopes → RegistrationList → ℕ → List ℕ → ℕ → List ℕ
numbers_under scope_of V s name n = filter (λ k. stands_under scope_of s name (entry_at V k)) (range_with_len 0 n)

abbrev pub numbers_at : ℕ → List ℕ → Rows EntityNo → List ℕ
numbers_at s name rows = map (λ (e : EntityNo). e.0) (items_at s name rows)

-- an entry's number put in after those that are there, where it stands in a scope
abbrev pub PutsEntry : Scopes → Rows EntityNo → Rows EntityNo → Option Entry → ℕ → Type 0
PutsEntry scope_of old new o number = (s : ℕ) (name : List ℕ) →
    numbers_at s name new ≡ numbers_at s name old ++ (if stands_under scope_of s name o then number ∷ [] else [])

-- the same numbers are found as before
abbrev pub FindsSame : Rows EntityNo → Rows EntityNo → Type 0
FindsSame old new = (s : ℕ) (name : List ℕ) → numbers_at s name new ≡ numbers_at s name old

-- the rows have each entry of the list that stands in a scope, in order
pub record Indexes (scope_of : Scopes) (V : RegistrationList) (rows : Rows EntityNo) : Type 0 where
  pub same : (s : ℕ) (name : List ℕ) → numbers_at s name rows ≡ numbers_under scope_of V s name (length V)

-- Registered entities as code asks them (docs/CLAIMS.md, "Operations"; docs/HOST.md, "Drivers").
use Rattle.std.specs.Prelude.{◌≡◌, ℕ, ◌&&◌, Bool, true, false, map, Option, Some, None, if◌then◌else◌}
use Rattle.ang_kinds.specs.declared.primitive.Primitive.TheVariants.{I32}
use Rattle.ang_kinds.specs.declared.types.TypeRef.{TypeRef}
use Rattle.ang_kinds.specs.declared.types.TypeRef.TheVariants.{Void, Plain as PlainType, Enumeration, Object}
use Rattle.ang_view.specs.declared.entry.Entry.{Entry}
use Rattle.ang_view.specs.declared.entry.EntryKind.{EntryKind}
use Rattle.ang_view.specs.declared.entry.EntryKind.TheVariants.{HostType as TypeKind, Factory, Method, Property, Function, Global, Enumeration as EnumerationKind, EnumValue}
use Rattle.ang_host.specs.declared.event.Role.{Role}
use Rattle.ang_host.specs.declared.event.Role.TheVariants.{Making, Calling, Property as Reading}
use Rattle.ang_view.specs.Registration.{RegistrationList, entry_at}
use Rattle.ang_meaning.specs.declared.host.HostValueType.{HostValueType}
use Rattle.ang_meaning.specs.declared.host.HostValueType.TheVariants.{Nothing, Plain, Handle}
use Rattle.ang_meaning.specs.declared.host.HostUse.{HostUse}
use Rattle.ang_meaning.specs.Environment.{Environment, is_property}

-- a declared type, as its values pass; every object passes as a handle, and a value of an enumeration as an `int`
abbrev pub host_type_of : TypeRef → HostValueType
host_type_of Void = Nothing
host_type_of (PlainType p) = Plain p
host_type_of (Enumeration name) = Plain I32
host_type_of (Object name shape const_object const_handle) = Handle

-- a method or a type's property is asked of an object
abbrev pub is_member : EntryKind → Bool
is_member Method = true
is_member Property = true
is_member _ = false

-- whether it can be asked at all: a type, an enumeration and a value of one are asked by nobody
abbrev pub is_asked : EntryKind → Bool
is_asked TypeKind = false
is_asked EnumerationKind = false
is_asked (EnumValue v) = false
is_asked Factory = true
is_asked Method = true
is_asked Property = true
is_asked Function = true
is_asked Global = true

-- Which method of its driver answers. Of what is asked by nobody it says nothing.
abbrev pub role_in : EntryKind → ℕ → Role
role_in TypeKind f = Making f
role_in Factory f = Making f
role_in Method f = Calling f
role_in Property f = Reading f
role_in Function f = Calling f
role_in Global f = Reading f
role_in EnumerationKind f = Making f
role_in (EnumValue v) f = Making f

-- a property that is declared `const`
abbrev pub is_constant : EntryKind → ℕ → Bool → Bool
is_constant kind f declared = is_property (role_in kind f) && declared

abbrev pub use_of : Entry → HostUse
use_of x = record {
  driver = x.driver;
  role = role_in x.kind x.f;
  member = is_member x.kind;
  params = map (λ p. host_type_of p.ty) x.signature.params;
  result = host_type_of x.signature.result;
  read_only = is_constant x.kind x.f x.signature.read_only;
}

-- how an entry of a view is asked; a blank is none
abbrev pub asked_as : Option Entry → Option HostUse
asked_as None = None
asked_as (Some x) = if is_asked x.kind then Some (use_of x) else None

-- what a module with this view may ask under a number
abbrev pub use_in : RegistrationList → ℕ → Option HostUse
use_in V e = asked_as (entry_at V e)

-- In the setting, module m sees what its view has to ask and nothing else.
pub record HasView (z : Environment) (m : ℕ) (V : RegistrationList) : Type 0 where
  pub each : (e : ℕ) → z.host m e ≡ use_in V e

-- the view has an entry under the number, which can be asked, and this is how
pub record IsOfView (V : RegistrationList) (e : ℕ) (u : HostUse) : Type 0 where
  pub entry : Entry
  pub in_view : entry_at V e ≡ Some entry
  pub asked : is_asked entry.kind ≡ true
  pub same : use_of entry ≡ u

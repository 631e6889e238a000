-- What texts declare before it is known what has the names in them (docs/HOST.md, "Declarations"): values alone are taken, and a
-- property's type is a primitive one or a bare name.
use Rattle.std.specs.Prelude.{ℕ, ◌≡◌, false, [], List, Option, Some, None}
use Rattle.ang_kinds.specs.declared.types.Signature.{Signature}
use Rattle.ang_kinds.specs.declared.types.TypeRef.{TypeRef}
use Rattle.ang_kinds.specs.declared.types.TypeRef.TheVariants as ref
use Rattle.ang_view.specs.declared.entry.EntryKind.{EntryKind}
use Rattle.ang_view.specs.declared.entry.EntryKind.TheVariants.{HostType, Factory, Method, Property, Function, Global, Enumeration, EnumValue}
use Rattle.ang_view.specs.Values.{AreValues}
use Rattle.ang_registry.specs.Overloads.{is_handle}

-- a primitive type, or a bare name, which may be an enumeration's
abbrev pub IsValueType : TypeRef → Type 0
IsValueType ref.Void = ⊥
IsValueType (ref.Plain p) = Unit {0}
IsValueType (ref.Enumeration name) = Unit {0}
IsValueType (ref.Object name shape const_object const_handle) = is_handle shape ≡ false

pub record IsWrittenProperty (s : Signature) : Type 0 where
  pub takes_nothing : s.params ≡ []
  pub value : IsValueType s.result

abbrev pub IsWrittenOf : EntryKind → Signature → Type 0
IsWrittenOf HostType s = Unit {0}
IsWrittenOf Factory s = Unit {0}
IsWrittenOf Method s = Unit {0}
IsWrittenOf Property s = IsWrittenProperty s
IsWrittenOf Function s = Unit {0}
IsWrittenOf Global s = IsWrittenProperty s
IsWrittenOf Enumeration s = Unit {0}
IsWrittenOf (EnumValue v) s = Unit {0}

-- a declaration of an entry of this kind, as it is written
pub record WritesValues (kind : EntryKind) (s : Signature) : Type 0 where
  pub params : AreValues s.params
  pub of_kind : IsWrittenOf kind s

-- nothing is declared, or values alone are taken
abbrev pub DeclaresWritten : EntryKind → Option Signature → Type 0
DeclaresWritten kind None = Unit {0}
DeclaresWritten kind (Some s) = WritesValues kind s

-- Hosts whose declarations take values alone (docs/HOST.md, "Declarations"): no parameter is `&out`, and each property is of a
-- primitive type or an enumeration.
use Rattle.std.specs.Prelude.{◌≡◌, ◌≢◌, List, [], ◌∷◌, Option, Some, None}
use Rattle.ang_kinds.specs.declared.types.Param.{Param}
use Rattle.ang_kinds.specs.declared.types.Pass.TheVariants.{RefOut}
use Rattle.ang_kinds.specs.declared.types.Signature.{Signature}
use Rattle.ang_kinds.specs.declared.types.TypeRef.{TypeRef}
use Rattle.ang_kinds.specs.declared.types.TypeRef.TheVariants as ref
use Rattle.ang_view.specs.declared.entry.Entry.{Entry}
use Rattle.ang_view.specs.declared.entry.EntryKind.{EntryKind}
use Rattle.ang_view.specs.declared.entry.EntryKind.TheVariants.{HostType, Factory, Method, Property, Function, Global, Enumeration, EnumValue}
use Rattle.ang_view.specs.Registration.{RegistrationList}

-- no parameter is `&out`
abbrev pub AreValues : List Param → Type 0
AreValues [] = Unit {0}
AreValues (p ∷ ps) = (p.pass ≢ RefOut) × AreValues ps

-- a primitive type or an enumeration, whose values are numbers too
abbrev pub IsPrimitive : TypeRef → Type 0
IsPrimitive ref.Void = ⊥
IsPrimitive (ref.Plain p) = Unit {0}
IsPrimitive (ref.Enumeration name) = Unit {0}
IsPrimitive (ref.Object name shape const_object const_handle) = ⊥

-- a property: it takes nothing, and gives a value of a primitive type or an enumeration
pub record IsProperty (s : Signature) : Type 0 where
  pub takes_nothing : s.params ≡ []
  pub primitive : IsPrimitive s.result

-- what an entry of this kind may declare
abbrev pub IsOfKind : EntryKind → Signature → Type 0
IsOfKind HostType s = Unit {0}
IsOfKind Factory s = Unit {0}
IsOfKind Method s = Unit {0}
IsOfKind Property s = IsProperty s
IsOfKind Function s = Unit {0}
IsOfKind Global s = IsProperty s
IsOfKind Enumeration s = Unit {0}
IsOfKind (EnumValue v) s = Unit {0}

-- a declaration of an entry of this kind
pub record SignatureTakesValues (kind : EntryKind) (s : Signature) : Type 0 where
  pub params : AreValues s.params
  pub of_kind : IsOfKind kind s

abbrev pub EntryTakesValues : Option Entry → Type 0
EntryTakesValues None = Unit {0}
EntryTakesValues (Some x) = SignatureTakesValues x.kind x.signature

-- each declaration of the list takes values alone
abbrev pub TakesValues : RegistrationList → Type 0
TakesValues [] = Unit {0}
TakesValues (x ∷ list) = EntryTakesValues x × TakesValues list

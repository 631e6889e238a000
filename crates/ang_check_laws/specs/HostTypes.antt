-- What typing asks of the host that a module sees, and of the types that pass between modules.
use Rattle.std.specs.Prelude.{◌≡◌, ◌<◌, ℕ, true, List, [], ◌∷◌, Some, IfSome, slice_get}
use Rattle.ang_kinds.specs.declared.mask.EntityNo.{EntityNo}
use Rattle.ang_kinds.specs.declared.types.Param.{Param}
use Rattle.ang_kinds.specs.declared.types.TypeRef.{TypeRef}
use Rattle.ang_kinds.specs.declared.types.TypeRef.TheVariants as ref
use Rattle.ang_view.specs.declared.entry.Entry.{Entry}
use Rattle.ang_view.specs.Registration.{RegistrationList, entry_at, seen}
use Rattle.ang_view.specs.Types.{type_named}
use Rattle.ang_types.specs.declared.arg_type.ArgType.{ArgType}
use Rattle.ang_types.specs.declared.arg_type.ArgType.TheVariants as type
use Rattle.ang_names_known.specs.declared.names.Names.{Names}
use Rattle.ang_names_known.specs.declared.names.ScriptFunction.{ScriptFunction}
use Rattle.ang_names_known.specs.Lookup.{same_type}
use Rattle.ang_source_typed.specs.Types.{slot_type, driver_of, first_family}

-- ---- handles of the host

-- A handle in a declaration is to a type of the entry's own driver: a registry refuses any other (`WrongDriver`).
abbrev pub IsOwnType : RegistrationList → ℕ → TypeRef → Type 0
IsOwnType V d ref.Void = Unit {0}
IsOwnType V d (ref.Plain p) = Unit {0}
IsOwnType V d (ref.Enumeration name) = Unit {0}
IsOwnType V d (ref.Object name shape const_object const_handle) = (n : ℕ) → type_named V name ≡ Some n → driver_of (entry_at V n) ≡ d

abbrev pub AreOwnTypes : RegistrationList → ℕ → List Param → Type 0
AreOwnTypes V d [] = Unit {0}
AreOwnTypes V d (p ∷ ps) = IsOwnType V d p.ty × AreOwnTypes V d ps

-- and so is the type to which a factory, a method or an object's property belongs
pub record HasOwnTypes (V : RegistrationList) (x : Entry) : Type 0 where
  pub result : IsOwnType V x.driver x.signature.result
  pub params : AreOwnTypes V x.driver x.signature.params
  pub owner : IfSome x.owner (λ (n : EntityNo). driver_of (entry_at V n.0) ≡ x.driver)

abbrev pub HandlesAreOwn : RegistrationList → Type 0
HandlesAreOwn V = (n : ℕ) (x : Entry) → entry_at V n ≡ Some x → HasOwnTypes V x

-- ---- types that pass between modules

-- a type of which each module's view has the entry, or one that is no object's
abbrev pub IsSeenType : RegistrationList → ArgType → Type 0
IsSeenType V type.Void = Unit {0}
IsSeenType V type.Null = Unit {0}
IsSeenType V (type.Plain p) = Unit {0}
IsSeenType V (type.Enumeration n) = Unit {0}
IsSeenType V (type.Object n c) = (n < first_family) × ((x : Entry) × (entry_at V n ≡ Some x))
IsSeenType V (type.Handle n c) = (n < first_family) × ((x : Entry) × (entry_at V n ≡ Some x))

-- Equal types as a binding compares them are equal slot types in both modules' views, which show one list: `same_type` compares the numbers of entries.
abbrev pub SameTypesHoldTheSame : Type 0
SameTypesHoldTheSame = (list : RegistrationList) (a b m k : ℕ) (x y : ArgType) → same_type x y ≡ true → IsSeenType (seen list a) x → IsSeenType (seen list b) y
    → slot_type (seen list a) m x ≡ slot_type (seen list b) k y

-- What an import gives is a number, or a handle to a type of the host that its module sees: a type of scripts is refused (`BadImport`).
abbrev pub ImportsAreOfTheHost : RegistrationList → Names → Type 0
ImportsAreOfTheHost V names = (i : ℕ) (f : ScriptFunction) → slice_get names.imports i ≡ Some f → IsSeenType V f.result.ty

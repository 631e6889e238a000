-- Types of the places of a run, and worlds whose places all have them (docs/CLAIMS.md, "What a script means").
use Rattle.std.specs.Prelude.{◌≡◌, ◌-◌, ℕ, Bool, true, List, [], ◌∷◌, length, map as list_map, nat_lt, nat_eq, Option, Some, None, if◌then◌else◌, slice_get, slice_index_or}
use Rattle.std.specs.List.{list_any}
use Rattle.std.specs.FinMap as map
use Rattle.ang_types.specs.declared.arg_type.ArgType.{ArgType}
use Rattle.ang_types.specs.declared.arg_type.ArgType.TheVariants as type
use Rattle.ang_view.specs.declared.entry.Entry.{Entry}
use Rattle.ang_view.specs.Registration.{RegistrationList, entry_at}
use Rattle.ang_typed.specs.Typed as t
use Rattle.ang_meaning.specs.declared.slot.Slot.{Slot}
use Rattle.ang_meaning.specs.declared.slot.Slot.TheVariants.{Bits, Script, Host}
use Rattle.ang_meaning.specs.World.{World, ScriptRecord, ScriptObjects}
use Rattle.ang_meaning.specs.Environment.{Environment, class_in}
use Rattle.ang_meaning.specs.Counting.{IsCounted}
use Rattle.ang_source.specs.Meaning.{fields_by}

-- ---- types of places

-- a number or truth value; null or an object of this driver; null or an object whose class is or stands under this family of that module
pub data SlotType : Type 0 where
  Number : SlotType
  Key : (driver : ℕ) → SlotType
  Family : (home family : ℕ) → SlotType

-- What typing knows of a module beside its setting: what it sees of the host, its tree, which families are classes, so that objects are made of them, and which
-- bodies are those of constructors.
pub record TypedModule : Type 0 where
  pub view : RegistrationList
  pub program : t.Program
  pub is_class : ℕ → Bool
  pub is_constructor : ℕ → Bool

-- by their numbers
abbrev pub Modules : Type 0
Modules = ℕ → TypedModule

-- the number of the first family among the numbers of object types: a type of the host has the number of its entry
abbrev pub first_family : ℕ
first_family = 1024

abbrev pub driver_of : Option Entry → ℕ
driver_of None = 0
driver_of (Some x) = x.driver

abbrev pub object_type : RegistrationList → ℕ → ℕ → SlotType
object_type V m n = if nat_lt n first_family then Key (driver_of (entry_at V n)) else Family m (n - first_family)

-- What a place of a declared type holds, in module m. No variable has the type of `null`.
abbrev pub slot_type : RegistrationList → ℕ → ArgType → SlotType
slot_type V m type.Void = Number
slot_type V m type.Null = Key 0
slot_type V m (type.Plain p) = Number
slot_type V m (type.Enumeration n) = Number
slot_type V m (type.Object n c) = object_type V m n
slot_type V m (type.Handle n c) = object_type V m n

-- the types of the fields of class c of module m, those of the base class first
abbrev pub field_types : Modules → ℕ → ℕ → List SlotType
field_types ms m c =
    let classes = (ms m).program.classes in
    list_map (slot_type (ms m).view m) (fields_by classes (length classes) (slice_get classes c))

abbrev pub global_types : Modules → ℕ → List SlotType
global_types ms m = list_map (λ g. slot_type (ms m).view m g.ty) (ms m).program.globals

-- ---- what is typed

-- the module of each object: that whose script made it
abbrev pub Owners : Type 0
Owners = ℕ → ℕ

-- In a setting with these modules:
module _ (z : Environment) (ms : Modules) where
  -- class c of module m is that family or stands under it
  abbrev pub IsUnder : ℕ → ℕ → ℕ → Type 0
  IsUnder m c d = list_any (nat_eq d) (class_in (z.class m c)).under ≡ true

  -- what has the first type has the second too: a derived class is one of each family above it
  abbrev pub IsA : SlotType → SlotType → Type 0
  IsA Number Number = Unit {0}
  IsA Number (Key e) = ⊥
  IsA Number (Family k d) = ⊥
  IsA (Key d) Number = ⊥
  IsA (Key d) (Key e) = d ≡ e
  IsA (Key d) (Family k e) = ⊥
  IsA (Family m c) Number = ⊥
  IsA (Family m c) (Key e) = ⊥
  IsA (Family m c) (Family k d) = (m ≡ k) × IsUnder m c d

  -- A place of this type may hold the value. It says nothing of a number that names no object: counts say that there is none such.
  abbrev pub HasType : Owners → ScriptObjects → SlotType → Slot → Type 0
  HasType own os Number (Bits n) = Unit {0}
  HasType own os Number (Script k) = ⊥
  HasType own os Number (Host d k) = ⊥
  HasType own os (Key d) (Bits n) = ⊥
  HasType own os (Key d) (Script None) = Unit {0}
  HasType own os (Key d) (Script (Some n)) = ⊥
  HasType own os (Key d) (Host e None) = Unit {0}
  HasType own os (Key d) (Host e (Some k)) = d ≡ e
  HasType own os (Family m c) (Bits n) = ⊥
  HasType own os (Family m c) (Script None) = Unit {0}
  HasType own os (Family m c) (Script (Some n)) = (o : ScriptRecord) → map.get os n ≡ Some o → (own n ≡ m) × IsUnder m o.class c
  HasType own os (Family m c) (Host d k) = ⊥

  -- as many values as types, each of its own
  abbrev pub AllTyped : Owners → ScriptObjects → List SlotType → List Slot → Type 0
  AllTyped own os [] [] = Unit {0}
  AllTyped own os [] (v ∷ vs) = ⊥
  AllTyped own os (ty ∷ types) [] = ⊥
  AllTyped own os (ty ∷ types) (v ∷ vs) = HasType own os ty v × AllTyped own os types vs

  -- An object is one of a class of its module: it has that class's rank, and its fields are of the class's types.
  pub record IsTypedObject (own : Owners) (os : ScriptObjects) (n : ℕ) (o : ScriptRecord) : Type 0 where
    pub fields : AllTyped own os (field_types ms (own n) o.class) o.fields
    pub rank : o.rank ≡ (class_in (z.class (own n) o.class)).rank
    pub made : (ms (own n)).is_class o.class ≡ true

  -- all objects are typed, and the globals of all modules
  pub record IsTypedWorld (own : Owners) (w : World) : Type 0 where
    pub objects : (n : ℕ) (o : ScriptRecord) → map.get w.objects n ≡ Some o → IsTypedObject own w.objects n o
    pub globals : (m : ℕ) → AllTyped own w.objects (global_types ms m) (slice_index_or w.globals m [])

  -- All places of a run are typed: these, the globals and the fields; and each count is the number of the places.
  pub record IsGood (types : List SlotType) (vs : List Slot) (w : World) : Type 0 where
    pub own : Owners
    pub places : AllTyped own w.objects types vs
    pub world : IsTypedWorld own w
    pub counted : IsCounted vs w

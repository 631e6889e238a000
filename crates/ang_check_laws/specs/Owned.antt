-- Lists as registries make them (docs/HOST.md, "Registration"): the types that a declaration names are there, and each object type among them is of the entry's
-- own driver. A mask keeps this, which it need not keep of handles alone: where another type of a name stood behind a hidden one, the name would find that.
use Rattle.std.specs.Prelude.{◌≡◌, ℕ, Bool, true, false, List, Some}
use Rattle.ang_kinds.specs.declared.mask.EntityNo.{EntityNo}
use Rattle.ang_view.specs.declared.entry.Entry.{Entry}
use Rattle.ang_view.specs.Only.{only, NamesKept}
use Rattle.ang_view.specs.Registration.{RegistrationList, entry_at, is_host_type, is_type, mentions, seen}
use Rattle.ang_view.specs.Types.{is_enumeration}
use Rattle.ang_check_laws.specs.Registered.{RegistryCall, after_calls, nothing}
use Rattle.ang_check_laws.specs.HostTypes.{HandlesAreOwn}

-- a type or an enumeration of this name stands in the list
pub record HasTypeNamed (R : RegistrationList) (name : List ℕ) : Type 0 where
  pub number : ℕ
  pub entry : Entry
  pub there : entry_at R number ≡ Some entry
  pub is : is_type entry.kind ≡ true
  pub named : entry.signature.name ≡ name

-- a type or an enumeration of this driver stands at this number
pub record HasOwner (R : RegistrationList) (driver n : ℕ) : Type 0 where
  pub entry : Entry
  pub there : entry_at R n ≡ Some entry
  pub is : is_type entry.kind ≡ true
  pub by : entry.driver ≡ driver

pub record IsOwned (R : RegistrationList) (x : Entry) : Type 0 where
  -- a type and an enumeration name nothing
  pub bare : is_type x.kind ≡ true → (o : EntityNo) → x.owner ≡ Some o → ⊥
  pub silent : is_type x.kind ≡ true → (name : List ℕ) → mentions x.signature name ≡ false
  -- what is named is there, each object type among it of the entry's driver
  pub known : (name : List ℕ) → mentions x.signature name ≡ true → HasTypeNamed R name
  pub own : (k : ℕ) (y : Entry) → entry_at R k ≡ Some y → is_host_type y.kind ≡ true → mentions x.signature y.signature.name ≡ true → y.driver ≡ x.driver
  pub owner : (o : EntityNo) → x.owner ≡ Some o → HasOwner R x.driver o.0
  -- an enumeration has no driver
  pub driverless : is_enumeration x.kind ≡ true → x.driver ≡ 0

abbrev pub AreOwned : RegistrationList → Type 0
AreOwned R = (n : ℕ) (x : Entry) → entry_at R n ≡ Some x → IsOwned R x

-- of each list that a registry makes
abbrev pub RegistriesAreOwned : Type 0
RegistriesAreOwned = (calls : List RegistryCall) → AreOwned (after_calls nothing calls).entries

-- A mask keeps it, and so does taking out what nothing names that is left.
abbrev pub SeenAreOwned : Type 0
SeenAreOwned = (R : RegistrationList) (m : ℕ) → AreOwned R → AreOwned (seen R m)

abbrev pub KeptAreOwned : Type 0
KeptAreOwned = (R : RegistrationList) (keep : ℕ → Bool) → NamesKept keep R → AreOwned R → AreOwned (only keep R)

-- and handles are own
abbrev pub OwnedHandlesAreOwn : Type 0
OwnedHandlesAreOwn = (R : RegistrationList) → AreOwned R → HandlesAreOwn R

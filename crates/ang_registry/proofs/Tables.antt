-- The table of refusals, stage by stage.
use Rattle.std.proofs.Common.{◌≡◌, ℕ, true, false, ◌==◌, List, [], ◌∷◌, Option, Some, None}
use Rattle.ang_kinds.specs.declared.mask.EntityNo.{EntityNo}
use Rattle.ang_kinds.specs.declared.mask.Mask.{Mask}
use Rattle.ang_kinds.specs.declared.types.Signature.{Signature}
use Rattle.ang_view.specs.declared.entry.EntryKind.{EntryKind}
use Rattle.ang_registry.specs.declared.error.RegError.{RegError}
use Rattle.ang_registry.specs.declared.error.RegError.TheVariants.{Limit, EmptyMask, BadDeclaration, UnknownType}
use Rattle.ang_view.specs.Registration.{RegistrationList}
use Rattle.ang_registry.specs.Registrations.{Registrations}
use Rattle.ang_view.specs.Types.{type_named, driver_at}
use Rattle.ang_registry.specs.Types.{is_misused}
use Rattle.ang_registry.specs.Refusals.{first_row, is_over_limit, gives_own, refusal_of_own, refusal_of_member, refusal_of_entry}
use Rattle.ang_registry.proofs.FirstRow.{first_row-two}

-- the list and the default mask of a registry
pub record AreHeld (list : RegistrationList) (mask : Mask) (r : Registrations) : Type 0 where
  pub same_entries : list ≡ r.entries
  pub same_mask : mask ≡ r.default_mask

-- the first two rows don't apply
pub record HasRoom (list : RegistrationList) (mask : Mask) (declared : Option Signature) : Type 0 where
  pub within_limit : is_over_limit list declared ≡ false
  pub has_mask : (mask.0 == 0) ≡ false

-- ---- what belongs to a driver

pub refusal_of_own-early : (kind : EntryKind) (r : Registrations) (driver : ℕ) (declared : Option Signature) (why : RegError) (list : RegistrationList) (mask : Mask)
    → AreHeld list mask r → first_row ((is_over_limit list declared, Limit) ∷ (mask.0 == 0, EmptyMask) ∷ []) ≡ Some why
    → refusal_of_own kind r driver declared ≡ Some why
unfolding refusal_of_own
refusal_of_own-early kind r driver declared why list mask h f =
    first_row-two (is_over_limit r.entries declared) (r.default_mask.0 == 0) Limit EmptyMask _ why (rw (h.same_entries, h.same_mask) at f)

pub refusal_of_own-bad : (kind : EntryKind) (r : Registrations) (driver : ℕ) (declared : Option Signature) (list : RegistrationList) (mask : Mask)
    → AreHeld list mask r → HasRoom list mask declared → declared ≡ None → refusal_of_own kind r driver declared ≡ Some BadDeclaration
unfolding refusal_of_own
refusal_of_own-bad kind r driver declared list mask h f d =
    let limit : is_over_limit r.entries declared ≡ false = rw h.same_entries at f.within_limit in
    let empty : (r.default_mask.0 == 0) ≡ false = rw h.same_mask at f.has_mask in
    rw (limit, empty, d)

pub refusal_of_own-misused : (kind : EntryKind) (r : Registrations) (driver : ℕ) (declared : Option Signature) (s : Signature) (list : RegistrationList) (mask : Mask)
    → AreHeld list mask r → HasRoom list mask declared → declared ≡ Some s → is_misused list s ≡ true
    → refusal_of_own kind r driver declared ≡ Some BadDeclaration
unfolding refusal_of_own
refusal_of_own-misused kind r driver declared s list mask h f d m =
    let limit : is_over_limit r.entries declared ≡ false = rw h.same_entries at f.within_limit in
    let empty : (r.default_mask.0 == 0) ≡ false = rw h.same_mask at f.has_mask in
    let misused : is_misused r.entries s ≡ true = rw h.same_entries at m in
    rw (limit, empty, d, misused)

pub refusal_of_own-entry : (kind : EntryKind) (r : Registrations) (driver : ℕ) (declared : Option Signature) (s : Signature) (list : RegistrationList) (mask : Mask)
    → AreHeld list mask r → HasRoom list mask declared → declared ≡ Some s → is_misused list s ≡ false
    → refusal_of_own kind r driver declared ≡ refusal_of_entry r.entries kind None driver s
unfolding refusal_of_own
refusal_of_own-entry kind r driver declared s list mask h f d m =
    let limit : is_over_limit r.entries declared ≡ false = rw h.same_entries at f.within_limit in
    let empty : (r.default_mask.0 == 0) ≡ false = rw h.same_mask at f.has_mask in
    let used : is_misused r.entries s ≡ false = rw h.same_entries at m in
    rw (limit, empty, d, used)

-- ---- what belongs to a type

pub refusal_of_member-early : (kind : EntryKind) (r : Registrations) (name : List ℕ) (declared : Option Signature) (why : RegError) (list : RegistrationList) (mask : Mask)
    → AreHeld list mask r → first_row ((is_over_limit list declared, Limit) ∷ (mask.0 == 0, EmptyMask) ∷ []) ≡ Some why
    → refusal_of_member kind r name declared ≡ Some why
unfolding refusal_of_member
refusal_of_member-early kind r name declared why list mask h f =
    first_row-two (is_over_limit r.entries declared) (r.default_mask.0 == 0) Limit EmptyMask _ why (rw (h.same_entries, h.same_mask) at f)

pub refusal_of_member-undeclared : (kind : EntryKind) (r : Registrations) (name : List ℕ) (declared : Option Signature) (list : RegistrationList) (mask : Mask)
    → AreHeld list mask r → HasRoom list mask declared → declared ≡ None → refusal_of_member kind r name declared ≡ Some BadDeclaration
unfolding refusal_of_member
refusal_of_member-undeclared kind r name declared list mask h f d =
    let limit : is_over_limit r.entries declared ≡ false = rw h.same_entries at f.within_limit in
    let empty : (r.default_mask.0 == 0) ≡ false = rw h.same_mask at f.has_mask in
    rw (limit, empty, d)

pub refusal_of_member-other : (kind : EntryKind) (r : Registrations) (name : List ℕ) (declared : Option Signature) (s : Signature) (list : RegistrationList) (mask : Mask)
    → AreHeld list mask r → HasRoom list mask declared → declared ≡ Some s → gives_own kind name s ≡ false
    → refusal_of_member kind r name declared ≡ Some BadDeclaration
unfolding refusal_of_member
refusal_of_member-other kind r name declared s list mask h f d o =
    let limit : is_over_limit r.entries declared ≡ false = rw h.same_entries at f.within_limit in
    let empty : (r.default_mask.0 == 0) ≡ false = rw h.same_mask at f.has_mask in
    rw (limit, empty, d, o)

pub refusal_of_member-misused : (kind : EntryKind) (r : Registrations) (name : List ℕ) (declared : Option Signature) (s : Signature) (list : RegistrationList) (mask : Mask)
    → AreHeld list mask r → HasRoom list mask declared → declared ≡ Some s → gives_own kind name s ≡ true → is_misused list s ≡ true
    → refusal_of_member kind r name declared ≡ Some BadDeclaration
unfolding refusal_of_member
refusal_of_member-misused kind r name declared s list mask h f d o m =
    let limit : is_over_limit r.entries declared ≡ false = rw h.same_entries at f.within_limit in
    let empty : (r.default_mask.0 == 0) ≡ false = rw h.same_mask at f.has_mask in
    let misused : is_misused r.entries s ≡ true = rw h.same_entries at m in
    rw (limit, empty, d, o, misused)

pub refusal_of_member-unknown : (kind : EntryKind) (r : Registrations) (name : List ℕ) (declared : Option Signature) (s : Signature) (list : RegistrationList) (mask : Mask)
    → AreHeld list mask r → HasRoom list mask declared → declared ≡ Some s → gives_own kind name s ≡ true → is_misused list s ≡ false → type_named list name ≡ None
    → refusal_of_member kind r name declared ≡ Some UnknownType
unfolding refusal_of_member
refusal_of_member-unknown kind r name declared s list mask h f d o m t =
    let limit : is_over_limit r.entries declared ≡ false = rw h.same_entries at f.within_limit in
    let empty : (r.default_mask.0 == 0) ≡ false = rw h.same_mask at f.has_mask in
    let used : is_misused r.entries s ≡ false = rw h.same_entries at m in
    let place : type_named r.entries name ≡ None = rw h.same_entries at t in
    rw (limit, empty, d, o, used, place)

pub refusal_of_member-entry : (kind : EntryKind) (r : Registrations) (name : List ℕ) (declared : Option Signature) (s : Signature) (number : EntityNo) (driver : ℕ) (list : RegistrationList) (mask : Mask)
    → AreHeld list mask r → HasRoom list mask declared → declared ≡ Some s → gives_own kind name s ≡ true → is_misused list s ≡ false
    → type_named list name ≡ Some number.0 → driver ≡ driver_at list (Some number.0)
    → refusal_of_member kind r name declared ≡ refusal_of_entry r.entries kind (Some number) driver s
unfolding refusal_of_member
refusal_of_member-entry kind r name declared s number driver list mask h f d o m t v =
    let limit : is_over_limit r.entries declared ≡ false = rw h.same_entries at f.within_limit in
    let empty : (r.default_mask.0 == 0) ≡ false = rw h.same_mask at f.has_mask in
    let used : is_misused r.entries s ≡ false = rw h.same_entries at m in
    let place : type_named r.entries name ≡ Some number.0 = rw h.same_entries at t in
    let by : driver ≡ driver_at r.entries (Some number.0) = rw h.same_entries at v in
    rw (limit, empty, d, o, used, place, by)

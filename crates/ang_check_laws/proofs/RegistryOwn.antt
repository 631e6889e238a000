-- Each list that a registry makes names types that are there, of its entries' own drivers; a mask keeps it.
use Rattle.std.specs.Prelude.{◌≡◌, ◌<◌, ◌==◌, ℕ, ℤ, zero, suc, Bool, true, false, not, ◌&&◌, ◌||◌, if◌then◌else◌, cond, is_some, is_none, nat_lt, length, List, [], ◌∷◌, ◌++◌, Option, Some, None, IfSome, bytes_eq}
use Rattle.std.specs.List.{list_any, list_all}
use Rattle.std.specs.Option.{option_map_or}
use Rattle.std.proofs.Common.{arith, refl, ap, sym, subst, ◌∙◌, ◌⊎◌, inl, inr, append_assoc}
use Rattle.std.proofs.lemmas.Bool.{cases_Bool, eqb-true, eq-eqb}
use Rattle.std.proofs.lemmas.Option.{same_Some}
use Rattle.std.proofs.lemmas.Slice.Eq.{bytes_eq-Decides}
use Rattle.ang_kinds.specs.declared.mask.EntityNo.{EntityNo}
use Rattle.ang_kinds.specs.declared.types.Param.{Param}
use Rattle.ang_kinds.specs.declared.types.Signature.{Signature}
use Rattle.ang_kinds.specs.declared.types.TypeRef.{TypeRef}
use Rattle.ang_kinds.specs.declared.types.TypeRef.TheVariants as ref
use Rattle.ang_lex.specs.Spelling.{is_identifier}
use Rattle.ang_view.specs.declared.entry.Entry.{Entry}
use Rattle.ang_view.specs.declared.entry.EntryKind.{EntryKind}
use Rattle.ang_view.specs.declared.entry.EntryKind.TheVariants as entry
use Rattle.ang_view.specs.declared.group.Group.{Group}
use Rattle.ang_view.specs.Groups.{group_named, is_named_outside, left_outside}
use Rattle.ang_view.specs.Only.{only, IsWithin}
use Rattle.ang_view.specs.Registration.{RegistrationList, entry_at, is_host_type, is_named_by, is_number, is_spelled_with, is_type, mentions, seen, seen_entry, is_seen}
use Rattle.ang_view.specs.Types.{driver_at, enumeration_named, is_enumeration, is_enumeration_named, is_type_named, number_at, type_named}
use Rattle.ang_view.proofs.Grouping.{names_left}
use Rattle.ang_view.proofs.Keeping.{kept_stays, only_gives, only_within}
use Rattle.ang_view.proofs.Seen.{entry_at-seen, position-passes}
use Rattle.ang_view.proofs.ViewTypes.{enumeration_is_type, host_type_is_type, named_is_seen}
use Rattle.ang_registry.specs.declared.error.RegError.TheVariants as error
use Rattle.ang_registry.specs.declared.error.GroupError.TheVariants.{InUse}
use Rattle.ang_registry.specs.Declarations.{declared_factory, declared_function, declared_method, declared_property, declared_type, type_signature}
use Rattle.ang_registry.specs.Groups.{refusal_of_begin, refusal_of_end, refusal_of_removal, removal_row, where_found, with_ended, with_opened, without}
use Rattle.ang_registry.specs.Overloads.{is_taken}
use Rattle.ang_registry.specs.Refusals.{first_row, gives_own, is_over_limit, refusal_of_blank, refusal_of_enumeration, refusal_of_factory, refusal_of_function, refusal_of_global, refusal_of_member, refusal_of_method, refusal_of_own, refusal_of_property, refusal_of_type, refusal_of_value, with_blank, with_entry_in, with_enumeration, with_factory, with_function, with_global, with_method, with_own, with_property, with_type, with_value, with_value_at}
use Rattle.ang_registry.specs.Registrations.{Registrations, grouped}
use Rattle.ang_registry.specs.Types.{is_foreign, is_known, is_misused, is_type_of, is_wrong_driver, names_unknown, settled, settled_signature}
use Rattle.ang_source_typed.specs.Types.{driver_of}
use Rattle.ang_check_laws.specs.Beyond.{IsRegistered}
use Rattle.ang_check_laws.specs.Registered.{RegistryCall, set_default_mask, type_, factory, method, property, function, global_property, enum_, enum_value, blank, begin_group, end_group, remove_group, close, where_accepted, after_call, after_calls, nothing}
use Rattle.ang_check_laws.proofs.Registering.{each_registered}
use Rattle.ang_check_laws.specs.HostTypes.{IsOwnType, AreOwnTypes, HasOwnTypes}
use Rattle.ang_check_laws.specs.Owned.{HasTypeNamed, HasOwner, IsOwned, AreOwned, RegistriesAreOwned, SeenAreOwned, KeptAreOwned, OwnedHandlesAreOwn}

-- ---- truth values

or_left : (a b : Bool) → a ≡ true → (a || b) ≡ true
or_left true b e = refl
or_left false b e = cc

or_right : (a b : Bool) → b ≡ true → (a || b) ≡ true
or_right true b e = refl
or_right false b e = e

or_cases : (a b : Bool) → (a || b) ≡ true → (a ≡ true) ⊎ (b ≡ true)
or_cases true b e = inl refl
or_cases false b e = inr e

and_parts : (a b : Bool) → (a && b) ≡ true → (a ≡ true) × (b ≡ true)
and_parts true b e = (refl, e)
and_parts false b e = cc

two_false : (a b : Bool) → (a || b) ≡ false → (a ≡ false) × (b ≡ false)
two_false true b e = cc
two_false false b e = (refl, e)

last_false : (a b c : Bool) → (a || b || c) ≡ false → c ≡ false
last_false true b c e = cc
last_false false true c e = cc
last_false false false c e = e

not_false : (b : Bool) → not b ≡ false → b ≡ true
not_false true e = refl
not_false false e = cc

-- ---- an entry by its place

stays_at : (R W : RegistrationList) (n : ℕ) (x : Entry) → entry_at R n ≡ Some x → entry_at (R ++ W) n ≡ Some x
stays_at [] W n x e = cc
stays_at (y ∷ R) W zero x e = e
stays_at (y ∷ R) W (suc n) x e = stays_at R W n x e

within_at : (R : RegistrationList) (n : ℕ) (x : Entry) → entry_at R n ≡ Some x → n < length R
within_at [] n x e = cc
within_at (y ∷ R) zero x e = omega arith
within_at (y ∷ R) (suc n) x e = let lt = within_at R n x e in omega (arith, lt)

last_at : (R : RegistrationList) (o : Option Entry) → entry_at (R ++ o ∷ []) (length R) ≡ o
last_at [] o = refl
last_at (y ∷ R) o = last_at R o

later : (R : RegistrationList) (o q : Option Entry) (n : ℕ) (x : Entry) → (entry_at R n ≡ Some x) ⊎ ((n ≡ length R) × (o ≡ Some x))
    → (entry_at (q ∷ R) (suc n) ≡ Some x) ⊎ ((suc n ≡ suc (length R)) × (o ≡ Some x))
later R o q n x (inl e) = inl e
later R o q n x (inr e) = inr (ap suc e.0, e.1)

old_or_new : (R : RegistrationList) (o : Option Entry) (n : ℕ) (x : Entry) → entry_at (R ++ o ∷ []) n ≡ Some x
    → (entry_at R n ≡ Some x) ⊎ ((n ≡ length R) × (o ≡ Some x))
old_or_new [] o zero x e = inr (refl, e)
old_or_new [] o (suc n) x e = cc
old_or_new (q ∷ R) o zero x e = inl e
old_or_new (q ∷ R) o (suc n) x e = later R o q n x (old_or_new R o n x e)

none_of : (p : Option Entry → Bool) (R : RegistrationList) → p None ≡ false → list_any p R ≡ false → (k : ℕ) → p (entry_at R k) ≡ false
none_of p [] off e k = off
none_of p (y ∷ ys) off e zero = (two_false (p y) (list_any p ys) e).0
none_of p (y ∷ ys) off e (suc k) = none_of p ys off (two_false (p y) (list_any p ys) e).1 k

-- ---- a type by its name

-- an entry stands there of which this holds
pub record Stands (R : RegistrationList) (n : ℕ) (test : EntryKind → Bool) (name : List ℕ) : Type 0 where
  pub entry : Entry
  pub there : entry_at R n ≡ Some entry
  pub is : test entry.kind ≡ true
  pub named : entry.signature.name ≡ name

stands_by : (R : RegistrationList) (n : ℕ) (test : EntryKind → Bool) (name : List ℕ) (x : Entry) → entry_at R n ≡ Some x
    → (test x.kind && bytes_eq x.signature.name name) ≡ true → Stands R n test name
stands_by R n test name x e h =
    let parts = and_parts (test x.kind) (bytes_eq x.signature.name name) h in
    record { entry = x; there = e; is = parts.0; named = (bytes_eq-Decides x.signature.name name).0 parts.1 }

type_by : (R : RegistrationList) (name : List ℕ) (n : ℕ) (o : Option Entry) → entry_at R n ≡ o → is_type_named name o ≡ true → Stands R n is_host_type name
type_by R name n None e h = cc
type_by R name n (Some x) e h = stands_by R n is_host_type name x e h

type_found : (R : RegistrationList) (name : List ℕ) (n : ℕ) → type_named R name ≡ Some n → Stands R n is_host_type name
unfolding type_named
type_found R name n e = type_by R name n (entry_at R n) refl (position-passes (is_type_named name) R n None e).1

enumeration_by : (R : RegistrationList) (name : List ℕ) (n : ℕ) (o : Option Entry) → entry_at R n ≡ o → is_enumeration_named name o ≡ true → Stands R n is_enumeration name
enumeration_by R name n None e h = cc
enumeration_by R name n (Some x) e h = stands_by R n is_enumeration name x e h

enumeration_found : (R : RegistrationList) (name : List ℕ) (n : ℕ) → enumeration_named R name ≡ Some n → Stands R n is_enumeration name
unfolding enumeration_named
enumeration_found R name n e = enumeration_by R name n (entry_at R n) refl (position-passes (is_enumeration_named name) R n None e).1

-- ---- handles are own

module _ (R : RegistrationList) (x : Entry) (h : IsOwned R x) where
  own_type : (ty : TypeRef) → ((name : List ℕ) → is_spelled_with name ty ≡ true → mentions x.signature name ≡ true) → IsOwnType R x.driver ty
  own_type ref.Void go = tt
  own_type (ref.Plain p) go = tt
  own_type (ref.Enumeration name) go = tt
  own_type (ref.Object name shape const_object const_handle) go = λ n e.
      let f = type_found R name n e in
      ap driver_of f.there
      ∙ h.own n f.entry f.there f.is (go f.entry.signature.name ((bytes_eq-Decides name f.entry.signature.name).1 (sym f.named)))

  own_types : (ps : List Param) → ((name : List ℕ) → list_any (λ (p : Param). is_spelled_with name p.ty) ps ≡ true → mentions x.signature name ≡ true)
      → AreOwnTypes R x.driver ps
  own_types [] go = tt
  own_types (p ∷ ps) go = (
    own_type p.ty (λ name e. go name (or_left (is_spelled_with name p.ty) (list_any (λ (q : Param). is_spelled_with name q.ty) ps) e)),
    own_types ps (λ name e. go name (or_right (is_spelled_with name p.ty) (list_any (λ (q : Param). is_spelled_with name q.ty) ps) e)),
  )

  own_owner : (o : Option EntityNo) → x.owner ≡ o → IfSome o (λ (n : EntityNo). driver_of (entry_at R n.0) ≡ x.driver)
  own_owner None e = tt
  own_owner (Some n) e = let owner = h.owner n e in ap driver_of owner.there ∙ owner.by

  has_own : HasOwnTypes R x
  has_own = record {
    result = own_type x.signature.result
        (λ name e. or_left (is_spelled_with name x.signature.result) (list_any (λ (p : Param). is_spelled_with name p.ty) x.signature.params) e);
    params = own_types x.signature.params
        (λ name e. or_right (is_spelled_with name x.signature.result) (list_any (λ (p : Param). is_spelled_with name p.ty) x.signature.params) e);
    owner = own_owner x.owner refl;
  }

pub handles_own : OwnedHandlesAreOwn
handles_own R owned n x e = has_own R x (owned n x e)

-- ---- a list with one entry more

type_stays : (R W : RegistrationList) (name : List ℕ) → HasTypeNamed R name → HasTypeNamed (R ++ W) name
type_stays R W name h = record { number = h.number; entry = h.entry; there = stays_at R W h.number h.entry h.there; is = h.is; named = h.named }

owner_stays : (R W : RegistrationList) (d n : ℕ) → HasOwner R d n → HasOwner (R ++ W) d n
owner_stays R W d n h = record { entry = h.entry; there = stays_at R W n h.entry h.there; is = h.is; by = h.by }

module _ (R : RegistrationList) (o : Option Entry) (registered : IsRegistered (R ++ o ∷ [])) where
  own_after : (x : Entry) → IsOwned R x → (k : ℕ) (y : Entry) → (entry_at R k ≡ Some y) ⊎ ((k ≡ length R) × (o ≡ Some y)) → is_host_type y.kind ≡ true
      → mentions x.signature y.signature.name ≡ true → y.driver ≡ x.driver
  own_after x h k y (inl e) t s = h.own k y e t s
  own_after x h k y (inr e) t s =
      let found = h.known y.signature.name s in
      let same : found.number ≡ length R = registered.types found.number (length R) found.entry y
      (stays_at R (o ∷ []) found.number found.entry found.there) (last_at R o ∙ e.1) found.is (host_type_is_type y.kind t) found.named in
      let lt = within_at R found.number found.entry found.there in
      absurd (omega (arith, same, lt))

  longer : (x : Entry) → IsOwned R x → IsOwned (R ++ o ∷ []) x
  longer x h = record {
    bare = h.bare;
    silent = h.silent;
    known = λ name s. type_stays R (o ∷ []) name (h.known name s);
    own = λ k y e. own_after x h k y (old_or_new R o k y e);
    owner = λ n e. owner_stays R (o ∷ []) x.driver n.0 (h.owner n e);
    driverless = h.driverless;
  }

  each_longer : AreOwned R → ((x : Entry) → o ≡ Some x → IsOwned R x) → (n : ℕ) (x : Entry) → (entry_at R n ≡ Some x) ⊎ ((n ≡ length R) × (o ≡ Some x))
      → IsOwned (R ++ o ∷ []) x
  each_longer owned fresh n x (inl e) = longer x (owned n x e)
  each_longer owned fresh n x (inr e) = longer x (fresh x e.1)

  one_more : AreOwned R → ((x : Entry) → o ≡ Some x → IsOwned R x) → AreOwned (R ++ o ∷ [])
  one_more owned fresh n x e = each_longer owned fresh n x (old_or_new R o n x e)

-- ---- a part of a list that has what it names

names_it : (a b c : Bool) → a ≡ false → b ≡ true → c ≡ true → (not a && b && c) ≡ true
names_it true b c e f g = cc
names_it false true c e f g = g
names_it false false c e f g = cc

no_type : (R : RegistrationList) (x : Entry) (name : List ℕ) → IsOwned R x → mentions x.signature name ≡ true → is_type x.kind ≡ false
no_type R x name h s =
    elim (cases_Bool (is_type x.kind)) [
      | inl is ↦ absurd (let no' : true ≡ false = sym s ∙ h.silent is name in cc)
      | inr isnt ↦ isnt
    ]

no_type_owned : (R : RegistrationList) (x : Entry) (o : EntityNo) → IsOwned R x → x.owner ≡ Some o → is_type x.kind ≡ false
no_type_owned R x o h e = elim (cases_Bool (is_type x.kind)) [ inl is ↦ absurd (h.bare is o e) | inr isnt ↦ isnt ]

module _ (R W : RegistrationList) (owned : AreOwned R) (part : IsWithin W R)
    (named : (n k : ℕ) (x : Entry) → entry_at W n ≡ Some x → is_named_by x k (entry_at R k) ≡ true → entry_at W k ≡ entry_at R k) where
  type_left : (n : ℕ) (x : Entry) (name : List ℕ) → entry_at W n ≡ Some x → IsOwned R x → mentions x.signature name ≡ true → HasTypeNamed R name → HasTypeNamed W name
  type_left n x name e h s t =
      let y = t.entry in
      let mentioned : mentions x.signature y.signature.name ≡ true = ap (mentions x.signature) t.named ∙ s in
      let names : is_named_by x t.number (entry_at R t.number) ≡ true =
      ap (is_named_by x t.number) t.there
      ∙ names_it (is_type x.kind) (is_type y.kind) (is_number t.number x.owner || mentions x.signature y.signature.name) (no_type R x name h s) t.is
      (or_right (is_number t.number x.owner) (mentions x.signature y.signature.name) mentioned) in
      record { number = t.number; entry = y; there = named n t.number x e names ∙ t.there; is = t.is; named = t.named }

  owner_left : (n : ℕ) (x : Entry) (o : EntityNo) → entry_at W n ≡ Some x → IsOwned R x → x.owner ≡ Some o → HasOwner R x.driver o.0 → HasOwner W x.driver o.0
  owner_left n x o e h own t =
      let y = t.entry in
      let number : is_number o.0 x.owner ≡ true = ap (is_number o.0) own ∙ eq-eqb o.0 o.0 refl in
      let names : is_named_by x o.0 (entry_at R o.0) ≡ true =
      ap (is_named_by x o.0) t.there
      ∙ names_it (is_type x.kind) (is_type y.kind) (is_number o.0 x.owner || mentions x.signature y.signature.name) (no_type_owned R x o h own) t.is
      (or_left (is_number o.0 x.owner) (mentions x.signature y.signature.name) number) in
      record { entry = y; there = named n o.0 x e names ∙ t.there; is = t.is; by = t.by }

  part_owned : AreOwned W
  part_owned n x e =
      let h = owned n x (part n x e) in record {
        bare = h.bare;
        silent = h.silent;
        known = λ name s. type_left n x name e h s (h.known name s);
        own = λ k y f t s. h.own k y (part k y f) t s;
        owner = λ o own. owner_left n x o e h own (h.owner o own);
        driverless = h.driverless;
      }

pub kept_owned : KeptAreOwned
kept_owned R keep kept owned =
    part_owned R (only keep R) owned (only_within keep R)
    (λ n k x e names. let there = only_gives keep R n x e in kept_stays keep R k (kept n k x there.1 there.0 names))

shown : (b : Bool) (x y : Entry) → (if b then Some x else None) ≡ Some y → x ≡ y
shown true x y e = same_Some x y e
shown false x y e = cc

registered_by : (R : RegistrationList) (m : ℕ) (o : Option Entry) (y : Entry) → seen_entry R m o ≡ Some y → o ≡ Some y
registered_by R m None y e = cc
registered_by R m (Some x) y e = ap Some (shown (is_seen R m x) x y e)

seen_within : (R : RegistrationList) (m : ℕ) → IsWithin (seen R m) R
seen_within R m n x e = registered_by R m (entry_at R n) x (sym (entry_at-seen R m n) ∙ e)

pub seen_owned : SeenAreOwned
seen_owned R m owned = part_owned R (seen R m) owned (seen_within R m) (λ n k x e names. named_is_seen R m n k x e names)

-- ---- a new entry

passed : (limit mask bad unknown foreign taken : Bool)
    → first_row ((limit, error.Limit) ∷ (mask, error.EmptyMask) ∷ (bad, error.BadDeclaration) ∷ (unknown, error.UnknownType) ∷ (foreign, error.WrongDriver) ∷ (taken, error.Duplicate) ∷ []) ≡ None
    → (unknown ≡ false) × (foreign ≡ false)
passed true mask bad unknown foreign taken e = cc
passed false true bad unknown foreign taken e = cc
passed false false true unknown foreign taken e = cc
passed false false false true foreign taken e = cc
passed false false false false true taken e = cc
passed false false false false false taken e = (refl, refl)

own_passed : (kind : EntryKind) (r : Registrations) (driver : ℕ) (s : Signature) → refusal_of_own kind r driver (Some s) ≡ None
    → (names_unknown r.entries s ≡ false) × (is_wrong_driver r.entries kind driver s ≡ false)
unfolding refusal_of_own
own_passed kind r driver s e =
    passed (is_over_limit r.entries (Some s)) (r.default_mask.0 == 0) (is_misused r.entries s) (names_unknown r.entries s)
    (is_wrong_driver r.entries kind driver s) (is_taken r.entries kind None s) e

member_passed : (kind : EntryKind) (r : Registrations) (name : List ℕ) (s : Signature) → refusal_of_member kind r name (Some s) ≡ None
    → ((is_none (type_named r.entries name) || names_unknown r.entries s) ≡ false)
    × (is_wrong_driver r.entries kind (driver_at r.entries (type_named r.entries name)) s ≡ false)
unfolding refusal_of_member
member_passed kind r name s e =
    let place = type_named r.entries name in
    passed (is_over_limit r.entries (Some s)) (r.default_mask.0 == 0) (not (gives_own kind name s) || is_misused r.entries s)
    (is_none place || names_unknown r.entries s) (is_wrong_driver r.entries kind (driver_at r.entries place) s) (is_taken r.entries kind (number_at place) s) e

module _ (R : RegistrationList) where
  type_known_by : (name own : List ℕ) (o : Option ℕ) → type_named R own ≡ o → is_some o ≡ true → own ≡ name → HasTypeNamed R name
  type_known_by name own None e k same = cc
  type_known_by name own (Some n) e k same =
      let f = type_found R own n e in record { number = n; entry = f.entry; there = f.there; is = host_type_is_type f.entry.kind f.is; named = f.named ∙ same }

  enumeration_known_by : (name own : List ℕ) (o : Option ℕ) → enumeration_named R own ≡ o → is_some o ≡ true → own ≡ name → HasTypeNamed R name
  enumeration_known_by name own None e k same = cc
  enumeration_known_by name own (Some n) e k same =
      let f = enumeration_found R own n e in
      record { number = n; entry = f.entry; there = f.there; is = enumeration_is_type f.entry.kind f.is; named = f.named ∙ same }

  known_type : (name : List ℕ) (ty : TypeRef) → is_known R ty ≡ true → is_spelled_with name ty ≡ true → HasTypeNamed R name
  known_type name ref.Void k s = cc
  known_type name (ref.Plain p) k s = cc
  known_type name (ref.Enumeration own) k s = enumeration_known_by name own (enumeration_named R own) refl k ((bytes_eq-Decides own name).0 s)
  known_type name (ref.Object own shape const_object const_handle) k s = type_known_by name own (type_named R own) refl k ((bytes_eq-Decides own name).0 s)

  known_types : (name : List ℕ) (ps : List Param) → list_all (λ (p : Param). is_known R p.ty) ps ≡ true → list_any (λ (p : Param). is_spelled_with name p.ty) ps ≡ true
      → HasTypeNamed R name
  known_types name [] k s = cc
  known_types name (p ∷ ps) k s =
      let parts = and_parts (is_known R p.ty) (list_all (λ (q : Param). is_known R q.ty) ps) k in
      elim (or_cases (is_spelled_with name p.ty) (list_any (λ (q : Param). is_spelled_with name q.ty) ps) s) [
        | inl here ↦ known_type name p.ty parts.0 here
        | inr there ↦ known_types name ps parts.1 there
      ]

  known_by : (s : Signature) → names_unknown R s ≡ false → (name : List ℕ) → mentions s name ≡ true → HasTypeNamed R name
  unfolding names_unknown
  known_by s e name m =
      let all = not_false (is_known R s.result && list_all (λ (p : Param). is_known R p.ty) s.params) e in
      let parts = and_parts (is_known R s.result) (list_all (λ (p : Param). is_known R p.ty) s.params) all in
      elim (or_cases (is_spelled_with name s.result) (list_any (λ (p : Param). is_spelled_with name p.ty) s.params) m) [
        | inl here ↦ known_type name s.result parts.0 here
        | inr there ↦ known_types name s.params parts.1 there
      ]

  not_foreign : (a b c : Bool) → (a && b && not c) ≡ false → a ≡ true → b ≡ true → c ≡ true
  not_foreign true true true e f g = refl
  not_foreign true true false e f g = cc
  not_foreign true false c e f g = cc
  not_foreign false b c e f g = cc

  own_by : (kind : EntryKind) (driver : ℕ) (s : Signature) → is_wrong_driver R kind driver s ≡ false → (k : ℕ) (y : Entry) → entry_at R k ≡ Some y
      → is_host_type y.kind ≡ true → mentions s y.signature.name ≡ true → y.driver ≡ driver
  unfolding is_wrong_driver
  own_by kind driver s e k y at t m =
      let none = none_of (is_foreign s driver) R refl (last_false (nat_lt 63 driver) (is_host_type kind && list_any (is_type_of driver) R) (list_any (is_foreign s driver) R) e) k in
      let here = sym (ap (is_foreign s driver) at) ∙ none in
      eqb-true y.driver driver (not_foreign (is_host_type y.kind) (mentions s y.signature.name) (y.driver == driver) here t m)

-- of no type
own_fresh : (kind : EntryKind) (r : Registrations) (driver f : ℕ) (s : Signature) → refusal_of_own kind r driver (Some s) ≡ None
    → (is_type kind ≡ true → (name : List ℕ) → mentions s name ≡ false) → (is_enumeration kind ≡ true → driver ≡ 0)
    → IsOwned r.entries (record { kind = kind; owner = None; driver = driver; f = f; signature = s; mask = r.default_mask })
own_fresh kind r driver f s e silent zero' =
    let rows = own_passed kind r driver s e in record {
      bare = λ is o no'. cc;
      silent = silent;
      known = known_by r.entries s rows.0;
      own = own_by r.entries kind driver s rows.1;
      owner = λ o no'. cc;
      driverless = zero';
    }

-- of a type
owner_by : (r : Registrations) (name : List ℕ) (place : Option ℕ) → type_named r.entries name ≡ place → (o : EntityNo) → number_at place ≡ Some o
    → HasOwner r.entries (driver_at r.entries place) o.0
owner_by r name None e o own = cc
owner_by r name (Some n) e o own =
    let f = type_found r.entries name n e in
    subst (λ (k : EntityNo). HasOwner r.entries (driver_at r.entries (Some n)) k.0) (same_Some (record { 0 = n }) o own)
    (record { entry = f.entry; there = f.there; is = host_type_is_type f.entry.kind f.is; by = sym (ap (λ (o : Option Entry). option_map_or (λ (t : Entry). t.driver) o 0) f.there) })

member_fresh : (kind : EntryKind) (r : Registrations) (name : List ℕ) (f : ℕ) (s : Signature) → is_type kind ≡ false → is_enumeration kind ≡ false
    → refusal_of_member kind r name (Some s) ≡ None
    → IsOwned r.entries (record { kind = kind; owner = number_at (type_named r.entries name); driver = driver_at r.entries (type_named r.entries name); f = f; signature = s; mask = r.default_mask })
member_fresh kind r name f s plain other e =
    let place = type_named r.entries name in
    let rows = member_passed kind r name s e in
    let unknown = (two_false (is_none place) (names_unknown r.entries s) rows.0).1 in record {
      bare = λ is o own. absurd (let no' : true ≡ false = sym is ∙ plain in cc);
      silent = λ is. absurd (let no' : true ≡ false = sym is ∙ plain in cc);
      known = known_by r.entries s unknown;
      own = own_by r.entries kind (driver_at r.entries place) s rows.1;
      owner = owner_by r name place refl;
      driverless = λ is. absurd (let no' : true ≡ false = sym is ∙ other in cc);
    }

-- a value
value_owner : (R : RegistrationList) (owned : AreOwned R) (name : List ℕ) (place : Option ℕ) → enumeration_named R name ≡ place → (o : EntityNo) → number_at place ≡ Some o
    → HasOwner R 0 o.0
value_owner R owned name None e o own = cc
value_owner R owned name (Some n) e o own =
    let f = enumeration_found R name n e in
    subst (λ (k : EntityNo). HasOwner R 0 k.0) (same_Some (record { 0 = n }) o own)
    (record { entry = f.entry; there = f.there; is = enumeration_is_type f.entry.kind f.is; by = (owned n f.entry f.there).driverless f.is })

-- ---- each call

module _ (r : Registrations) (owned : AreOwned r.entries) where
  own_added : (kind : EntryKind) (driver f : ℕ) (d : Option Signature) → ((s : Signature) → d ≡ Some s → is_type kind ≡ true → (name : List ℕ) → mentions s name ≡ false)
      → (is_enumeration kind ≡ true → driver ≡ 0) → refusal_of_own kind r driver d ≡ None → IsRegistered (with_own kind r driver f d).entries
      → AreOwned (with_own kind r driver f d).entries
  own_added kind driver f None silent none e registered = owned
  own_added kind driver f (Some s) silent none e registered =
      one_more r.entries _ registered owned
      (λ x same. subst (IsOwned r.entries) (same_Some _ x same) (own_fresh kind r driver f s e (silent s refl) none))

  member_added : (kind : EntryKind) (name : List ℕ) (f : ℕ) (d : Option Signature) → is_type kind ≡ false → is_enumeration kind ≡ false
      → refusal_of_member kind r name d ≡ None → IsRegistered (with_entry_in kind r (type_named r.entries name) f d).entries
      → AreOwned (with_entry_in kind r (type_named r.entries name) f d).entries
  member_added kind name f None plain other e registered = owned
  member_added kind name f (Some s) plain other e registered =
      one_more r.entries _ registered owned
      (λ x same. subst (IsOwned r.entries) (same_Some _ x same) (member_fresh kind r name f s plain other e))

  value_added : (value : ℤ) (enumeration name : List ℕ) (b : Bool)
      → IsRegistered (with_value_at value r (enumeration_named r.entries enumeration) (cond b (Some (type_signature name)) None)).entries
      → AreOwned (with_value_at value r (enumeration_named r.entries enumeration) (cond b (Some (type_signature name)) None)).entries
  value_added value enumeration name true registered =
      one_more r.entries _ registered owned
      (λ x same. subst (IsOwned r.entries) (same_Some _ x same) (record {
        bare = λ is. cc;
        silent = λ is. cc;
        known = λ n m. cc;
        own = λ k y at t m. cc;
        owner = value_owner r.entries owned enumeration (enumeration_named r.entries enumeration) refl;
        driverless = λ is. cc;
      }))
  value_added value enumeration name false registered = owned

  accepted : {E : Type 0} (o : Option E) (new : Registrations) → IsRegistered (where_accepted o new r).entries
      → (o ≡ None → IsRegistered new.entries → AreOwned new.entries) → AreOwned (where_accepted o new r).entries
  accepted None new registered h = h refl registered
  accepted (Some why) new registered h = owned

  not_in_use : (b : Bool) → (if b then Some InUse else None) ≡ None → b ≡ false
  not_in_use true e = cc
  not_in_use false e = refl

  removed : (g : Option Group) → removal_row r g ≡ None → AreOwned (where_found r g).entries
  removed None e = owned
  removed (Some g) e =
      kept_owned r.entries (left_outside g) (names_left r.entries g (not_in_use (is_named_outside r.entries g) e)) owned

  ended : (b : Bool) → AreOwned (if b then with_ended r else r).entries
  ended true = owned
  ended false = owned

  type_silent : (name : List ℕ) (b : Bool) (s : Signature) → settled r.entries (cond b (Some (type_signature name)) None) ≡ Some s → (other : List ℕ) → mentions s other ≡ false
  type_silent name true s e other = subst (λ (u : Signature). mentions u other ≡ false) (same_Some (settled_signature r.entries (type_signature name)) s e) refl
  type_silent name false s e other = cc

  never : (kind : EntryKind) → is_type kind ≡ false → (s : Signature) → is_type kind ≡ true → (name : List ℕ) → mentions s name ≡ false
  never kind isnt s is = absurd (let no' : true ≡ false = sym is ∙ isnt in cc)

  call_owned : (c : RegistryCall) → IsRegistered (after_call r c).entries → AreOwned (after_call r c).entries
  call_owned (set_default_mask mask) registered = owned
  call_owned (type_ name driver) registered =
      let d = declared_type name in
      accepted (refusal_of_type r driver d) (with_type r driver d) registered
      (λ e reg. own_added entry.HostType driver 0 (settled r.entries d) (λ s same is. type_silent name (is_identifier name) s same) (λ is. cc) e reg)
  call_owned (factory name f text) registered =
      let d = declared_factory text in
      accepted (refusal_of_factory r name d) (with_factory r name f d) registered
      (λ e reg. member_added entry.Factory name f (settled r.entries d) refl refl e reg)
  call_owned (method name f text) registered =
      let d = declared_method text in
      accepted (refusal_of_method r name d) (with_method r name f d) registered
      (λ e reg. member_added entry.Method name f (settled r.entries d) refl refl e reg)
  call_owned (property name f text) registered =
      let d = declared_property text in
      accepted (refusal_of_property r name d) (with_property r name f d) registered
      (λ e reg. member_added entry.Property name f (settled r.entries d) refl refl e reg)
  call_owned (function driver f text) registered =
      let d = declared_function text in
      accepted (refusal_of_function r driver d) (with_function r driver f d) registered
      (λ e reg. own_added entry.Function driver f (settled r.entries d) (λ s same. never entry.Function refl s) (λ is. cc) e reg)
  call_owned (global_property driver f text) registered =
      let d = declared_property text in
      accepted (refusal_of_global r driver d) (with_global r driver f d) registered
      (λ e reg. own_added entry.Global driver f (settled r.entries d) (λ s same. never entry.Global refl s) (λ is. cc) e reg)
  call_owned (enum_ name) registered =
      let d = declared_type name in
      accepted (refusal_of_enumeration r d) (with_enumeration r d) registered
      (λ e reg. own_added entry.Enumeration 0 0 (settled r.entries d) (λ s same is. type_silent name (is_identifier name) s same) (λ is. refl) e reg)
  call_owned (enum_value enumeration name value) registered =
      let d = declared_type name in
      accepted (refusal_of_value r enumeration value d) (with_value r enumeration value d) registered
      (λ e reg. value_added value enumeration name (is_identifier name) reg)
  call_owned blank registered =
      accepted (refusal_of_blank r) (with_blank r) registered (λ e reg. one_more r.entries None reg owned (λ x no'. cc))
  call_owned (begin_group name) registered = accepted (refusal_of_begin r name) (with_opened r name) registered (λ e reg. owned)
  call_owned end_group registered = accepted (refusal_of_end r) (with_ended r) registered (λ e reg. owned)
  call_owned (remove_group name) registered =
      accepted (refusal_of_removal r name) (without r name) registered (λ e reg. removed (group_named name (grouped r)) e)
  call_owned close registered = ended r.is_open

-- ---- calls, one after the other

after_joined : (r : Registrations) (cs ds : List RegistryCall) → after_calls r (cs ++ ds) ≡ after_calls (after_calls r cs) ds
after_joined r [] ds = refl
after_joined r (c ∷ cs) ds = after_joined (after_call r c) cs ds

calls_owned : (done cs : List RegistryCall) → AreOwned (after_calls nothing done).entries → AreOwned (after_calls nothing (done ++ cs)).entries
calls_owned done [] owned = subst (λ (r : Registrations). AreOwned r.entries) (sym (after_joined nothing done [])) owned
calls_owned done (c ∷ cs) owned =
    let one : after_calls nothing (done ++ c ∷ []) ≡ after_call (after_calls nothing done) c = after_joined nothing done (c ∷ []) in
    let registered = subst (λ (r : Registrations). IsRegistered r.entries) one (each_registered (done ++ c ∷ [])) in
    let next = call_owned (after_calls nothing done) owned c registered in
    let there = subst (λ (r : Registrations). AreOwned r.entries) (sym one) next in
    subst (λ (xs : List RegistryCall). AreOwned (after_calls nothing xs).entries) (append_assoc done (c ∷ []) cs) (calls_owned (done ++ c ∷ []) cs there)

pub registries_owned : RegistriesAreOwned
registries_owned cs = calls_owned [] cs (λ n x e. cc)

-- The entries that modules may ask.
use Rattle.std.proofs.Common.{◌≡◌, ◌+◌, ◌<◌, refl, ap, sym, ◌∙◌, subst, ℕ, zero, suc, true, false, List, [], ◌∷◌, All, Option, Some, None, arith}
use Rattle.std.specs.Prelude.{Bool, cond, IsSome, if◌then◌else◌, position, slice_get, slice_index_or}
use Rattle.std.specs.List.{AllByRecursion, AllZip, position_from}
use Rattle.std.proofs.lemmas.List.Elements.{All-nil, All-cons}
use Rattle.std.proofs.lemmas.Iterator.Adapters.{position_from-zero}
use Rattle.std.proofs.lemmas.Option.{get_or_from_slice_get}
use Rattle.std.proofs.lemmas.Slice.Eq.{bytes_eq-Decides}
use Rattle.ang_host.specs.declared.event.HostEvent.{HostEvent}
use Rattle.ang_host.specs.declared.event.HostEvent.TheVariants.{Called, Ended}
use Rattle.ang_host.specs.declared.event.Role.{Role}
use Rattle.ang_host.specs.Events.{role_at}
use Rattle.ang_view.specs.declared.entry.Entry.{Entry}
use Rattle.ang_view.specs.declared.entry.EntryKind.{EntryKind}
use Rattle.ang_view.specs.declared.entry.EntryKind.TheVariants.{HostType, Factory, Method, Property, Function, Global, Enumeration, EnumValue}
use Rattle.ang_view.specs.Only.{IsWithin}
use Rattle.ang_view.specs.Registration.{RegistrationList, entry_at, is_seen, seen_entry, seen}
use Rattle.ang_host.specs.declared.event.Role.{Role}
use Rattle.ang_engine.specs.Roles.{AreRoles}
use Rattle.ang_view.proofs.Seen.{entry_at-seen}
use Rattle.ang_meaning.specs.declared.host.HostUse.{HostUse}
use Rattle.ang_meaning.specs.World.{World as RunWorld}
use Rattle.ang_source.specs.Hosts.{is_asked, use_of, asked_as, use_in}
use Rattle.ang_engine_modules.specs.declared.modules.LoadedModule.{LoadedModule}
use Rattle.ang_engine_modules.specs.Loaded.{modules_of}
use Rattle.ang_engine_modules.specs.Modules.{module_at, AreDriversThere, AgreesWith, IsAskedIn}
use Rattle.ang_engine_modules.specs.declared.module.Module.{Module}
use Rattle.ang_engine_modules.specs.World.{ModuleState, World, has_name, module_in, left_to}
use Rattle.ang_engine_modules.specs.States.{state_of, place_of, places_of}
use Rattle.ang_engine.specs.Step.{IsEntitled}
use Rattle.ang_registry.specs.Drivers.{has_driver}
use Rattle.ang_engine.specs.Sound.{IsSoundPlace, HaveDrivers}

-- ---- what a mask shows

seen_by : (b : Bool) (x y : Entry) → (if b then Some x else None) ≡ Some y → x ≡ y
seen_by true x y e = cc
seen_by false x y e = cc

registered_by : (R : RegistrationList) (mask : ℕ) (o : Option Entry) (y : Entry) → seen_entry R mask o ≡ Some y → o ≡ Some y
registered_by R mask None y e = cc
registered_by R mask (Some x) y e = ap (λ z. Some z) (seen_by (is_seen R mask x) x y e)

-- what the view of a mask has, the list has
pub registered : (R : RegistrationList) (mask n : ℕ) (x : Entry) → entry_at (seen R mask) n ≡ Some x → entry_at R n ≡ Some x
registered R mask n x e = registered_by R mask (entry_at R n) x (sym (entry_at-seen R mask n) ∙ e)

asked_by : (b : Bool) (roles : List Role) (R : RegistrationList) (n : ℕ) (x : Entry) (u : HostUse) → AreRoles roles R → entry_at R n ≡ Some x → is_asked x.kind ≡ b
    → (if b then Some (use_of x) else None) ≡ Some u → role_at roles n ≡ u.role
asked_by false roles R n x u fit at t e = cc
asked_by true roles R n x u fit at t e =
    let same : use_of x ≡ u = cc in
    fit n x at t ∙ ap (λ y. y.role) same

asked_role : (roles : List Role) (R : RegistrationList) (mask n : ℕ) (o : Option Entry) (u : HostUse) → AreRoles roles R → entry_at (seen R mask) n ≡ o → asked_as o ≡ Some u → role_at roles n ≡ u.role
asked_role roles R mask n None u fit at e = cc
asked_role roles R mask n (Some x) u fit at e = asked_by (is_asked x.kind) roles R n x u fit (registered R mask n x at) refl e

pub role_seen : (roles : List Role) (R : RegistrationList) (mask n : ℕ) (u : HostUse) → AreRoles roles R → use_in (seen R mask) n ≡ Some u → role_at roles n ≡ u.role
role_seen roles R mask n u fit e = asked_role roles R mask n (entry_at (seen R mask) n) u fit refl e

-- ---- what the modules see

-- A module has the place m of these, and such is what its built mask shows.
pub record IsShownAt (R : RegistrationList) (ms : List (Option Module)) (ls : List (Option LoadedModule)) (m : ℕ) (Q : RegistrationList → Type 0) : Type 0 where
  pub own : Module
  pub there : slice_get ms m ≡ Some (Some own)
  pub name : (module_at (modules_of ls) m).name ≡ own.name
  pub view : Q (seen R own.built_mask.0)

-- What a module that runs has of the host its built mask shows.
pub shown_at : (R : RegistrationList) (ms : List (Option Module)) (ls : List (Option LoadedModule)) (Q : RegistrationList → Type 0) → ((V W : RegistrationList) → IsWithin V W → Q V → Q W) → (Q [] → ⊥)
    → AllZip (IsSoundPlace R) ms ls → (m : ℕ)
    → Q (module_at (modules_of ls) m).view → IsShownAt R ms ls m Q
shown_at R [] [] Q up none h m q = absurd (none q)
shown_at R [] (l ∷ ls) Q up none h m q = absurd h
shown_at R (x ∷ ms) [] Q up none h m q = absurd h
shown_at R (None ∷ ms) (None ∷ ls) Q up none h zero q = absurd (none q)
shown_at R (None ∷ ms) (Some l ∷ ls) Q up none h zero q = absurd h.0
shown_at R (Some x ∷ ms) (None ∷ ls) Q up none h zero q = absurd (none q)
shown_at R (Some x ∷ ms) (Some l ∷ ls) Q up none h zero q = record { own = x; there = refl; name = h.0.name; view = up l.view (seen R x.built_mask.0) h.0.stands q }
shown_at R (x ∷ ms) (l ∷ ls) Q up none h (suc m) q =
    let r = shown_at R ms ls Q up none h.1 m q in
    record { own = r.own; there = r.there; name = r.name; view = r.view }

use_up : (V W : RegistrationList) (n : ℕ) (u : HostUse) (o : Option Entry) → entry_at V n ≡ o → IsWithin V W → asked_as o ≡ Some u → use_in W n ≡ Some u
use_up V W n u None at within e = cc
use_up V W n u (Some x) at within e = ap asked_as (within n x at) ∙ e

some_is : (o : Option Entry) (x : Entry) → o ≡ Some x → IsSome o
some_is o x e = let y : IsSome o = cc in y

some_up : (V W : RegistrationList) (n : ℕ) (o : Option Entry) → entry_at V n ≡ o → IsWithin V W → IsSome o → IsSome (entry_at W n)
some_up V W n None at within h = absurd (let y : ⊥ = cc in y)
some_up V W n (Some x) at within h = some_is (entry_at W n) x (within n x at)

no_use : (n : ℕ) (u : HostUse) → use_in [] n ≡ Some u → ⊥
no_use n u e = let y : ⊥ = cc in y

some_none : (n : ℕ) → IsSome (entry_at [] n) → ⊥
some_none n h = let y : ⊥ = cc in y

-- what can be asked is a driver's
asked_driver : (k : EntryKind) → is_asked k ≡ true → has_driver k ≡ true
asked_driver HostType e = refl
asked_driver Factory e = refl
asked_driver Method e = refl
asked_driver Property e = refl
asked_driver Function e = refl
asked_driver Global e = refl
asked_driver Enumeration e = cc
asked_driver (EnumValue v) e = cc

driver_by : (b : Bool) (R : RegistrationList) (n count : ℕ) (x : Entry) (u : HostUse) → HaveDrivers R count → entry_at R n ≡ Some x → is_asked x.kind ≡ b
    → (if b then Some (use_of x) else None) ≡ Some u → u.driver < count
driver_by false R n count x u have at t e = cc
driver_by true R n count x u have at t e = let same : use_of x ≡ u = cc in subst (λ y. y.driver < count) same (have n x at (asked_driver x.kind t))

driver_in : (R : RegistrationList) (mask n count : ℕ) (o : Option Entry) (u : HostUse) → HaveDrivers R count → entry_at (seen R mask) n ≡ o → asked_as o ≡ Some u → u.driver < count
driver_in R mask n count None u have at e = cc
driver_in R mask n count (Some x) u have at e = driver_by (is_asked x.kind) R n count x u have (registered R mask n x at) refl e

-- the drivers of what they may ask are in the list
pub drivers_there : (R : RegistrationList) (ms : List (Option Module)) (ls : List (Option LoadedModule)) (count : ℕ) → AllZip (IsSoundPlace R) ms ls → HaveDrivers R count
    → AreDriversThere (modules_of ls) count
drivers_there R ms ls count h have m n u e =
    let r = shown_at R ms ls (λ V. use_in V n ≡ Some u) (λ V W within q. use_up V W n u (entry_at V n) refl within q) (no_use n u) h m e in
    driver_in R r.own.built_mask.0 n count (entry_at (seen R r.own.built_mask.0) n) u have refl r.view

-- and asked by their roles
pub roles_agree : (roles : List Role) (R : RegistrationList) (ms : List (Option Module)) (ls : List (Option LoadedModule)) → AreRoles roles R → AllZip (IsSoundPlace R) ms ls → AgreesWith roles (modules_of ls)
roles_agree roles R ms ls fit h = record {
  each = λ m n u e.
      let r = shown_at R ms ls (λ V. use_in V n ≡ Some u) (λ V W within q. use_up V W n u (entry_at V n) refl within q) (no_use n u) h m e in
      role_seen roles R r.own.built_mask.0 n u fit r.view;
}

-- ---- host calls

module _ {A : Type 0} (p : A → Bool) where
  not_first : (k : ℕ) (y : A) (xs : List A) (m : ℕ) (b : Bool) → p y ≡ b → (b ≡ true → ⊥) → position_from p (k + 1) xs ≡ Some (k + 1 + m) → position_from p k (y ∷ xs) ≡ Some (k + suc m)
  not_first k y xs m true e never rest = absurd (never refl)
  not_first k y xs m false e never rest = ap (λ b. cond b (Some k) (position_from p (k + 1) xs)) e ∙ rest ∙ ap (λ n. Some n) (omega arith)

  only_from : (k : ℕ) (xs : List A) (m : ℕ) (x : A) → slice_get xs m ≡ Some x → p x ≡ true → ((j : ℕ) (y : A) → slice_get xs j ≡ Some y → p y ≡ true → j ≡ m) → position_from p k xs ≡ Some (k + m)
  only_from k [] m x at passes only = absurd (cc)
  only_from k (y ∷ xs) zero x at passes only =
      let same : y ≡ x = cc in
      ap (λ b. cond b (Some k) (position_from p (k + 1) xs)) (ap p same ∙ passes) ∙ ap (λ n. Some n) (omega arith)
  only_from k (y ∷ xs) (suc m) x at passes only =
      not_first k y xs m (p y) refl (λ e. let no : 0 ≡ suc m = only 0 y refl e in absurd (omega (arith, no)))
      (only_from (k + 1) xs m x at passes (λ j z there pass. let n : suc j ≡ suc m = only (suc j) z there pass in omega (arith, n)))

  -- the only one that passes is the first
  pub position_only : (xs : List A) (m : ℕ) (x : A) → slice_get xs m ≡ Some x → p x ≡ true → ((j : ℕ) (y : A) → slice_get xs j ≡ Some y → p y ≡ true → j ≡ m) → position p xs ≡ Some m
  position_only xs m x at passes only =
      let same : 0 + m ≡ m = omega arith in
      position_from-zero p xs ∙ only_from 0 xs m x at passes only ∙ ap (λ n. Some n) same

-- the place of a module, in the world
place_there : (ms : List (Option Module)) (ks : List (Option LoadedModule)) (m : ℕ) (x : Module) → slice_get ms m ≡ Some (Some x) → slice_get (places_of ms ks) m ≡ Some (Some (state_of x (slice_index_or ks m None)))
place_there [] ks m x at = absurd (cc)
place_there (y ∷ ms) [] zero x at = let same : y ≡ Some x = cc in ap (λ o. Some (place_of o None)) same
place_there (y ∷ ms) (k ∷ ks) zero x at = let same : y ≡ Some x = cc in ap (λ o. Some (place_of o k)) same
place_there (y ∷ ms) [] (suc m) x at = place_there ms [] m x at
place_there (y ∷ ms) (k ∷ ks) (suc m) x at = place_there ms ks m x at

-- a module of the world has a place here
record HasPlace (ms : List (Option Module)) (ks : List (Option LoadedModule)) (j : ℕ) (s : ModuleState) : Type 0 where
  own : Module
  there : slice_get ms j ≡ Some (Some own)
  name : s.name ≡ own.name

place_from : (ms : List (Option Module)) (ks : List (Option LoadedModule)) (j : ℕ) (s : ModuleState) → slice_get (places_of ms ks) j ≡ Some (Some s) → HasPlace ms ks j s
place_from [] ks j s at = absurd (cc)
place_from (None ∷ ms) [] zero s at = absurd (cc)
place_from (Some y ∷ ms) [] zero s at = let same : state_of y None ≡ s = cc in record { own = y; there = refl; name = ap (λ (x : ModuleState). x.name) (sym same) }
place_from (None ∷ ms) (k ∷ ks) zero s at = absurd (cc)
place_from (Some y ∷ ms) (k ∷ ks) zero s at = let same : state_of y k ≡ s = cc in record { own = y; there = refl; name = ap (λ (x : ModuleState). x.name) (sym same) }
place_from (y ∷ ms) [] (suc j) s at = let r = place_from ms [] j s at in record { own = r.own; there = r.there; name = r.name }
place_from (y ∷ ms) (k ∷ ks) (suc j) s at = let r = place_from ms ks j s at in record { own = r.own; there = r.there; name = r.name }

-- no two modules have one name
abbrev pub AreApart : List (Option Module) → Type 0
AreApart ms = (i j : ℕ) (m n : Module) → slice_get ms i ≡ Some (Some m) → slice_get ms j ≡ Some (Some n) → m.name ≡ n.name → i ≡ j

module _ (ms : List (Option Module)) (ks : List (Option LoadedModule)) (apart : AreApart ms) where
  only_named : (m : ℕ) (x : Module) → slice_get ms m ≡ Some (Some x) → (j : ℕ) (o : Option ModuleState) → slice_get (places_of ms ks) j ≡ Some o → has_name x.name o ≡ true → j ≡ m
  only_named m x at j None there named = absurd (cc)
  only_named m x at j (Some s) there named =
      let r = place_from ms ks j s there in
      apart j m r.own x r.there at (sym r.name ∙ (bytes_eq-Decides s.name x.name).0 named)

  -- a module that is there is found by its name
  pub named_there : (m : ℕ) (x : Module) → slice_get ms m ≡ Some (Some x) → position (has_name x.name) (places_of ms ks) ≡ Some m
  named_there m x at =
      position_only (has_name x.name) (places_of ms ks) m (Some (state_of x (slice_index_or ks m None))) (place_there ms ks m x at) ((bytes_eq-Decides x.name x.name).1 refl) (only_named m x at)

place_read : (ms : List (Option Module)) (ks : List (Option LoadedModule)) (m : ℕ) (x : Module) → slice_get ms m ≡ Some (Some x)
    → slice_index_or (places_of ms ks) m None ≡ Some (state_of x (slice_index_or ks m None))
place_read ms ks m x at = get_or_from_slice_get (places_of ms ks) m (Some (state_of x (slice_index_or ks m None))) None (place_there ms ks m x at)

module _ (R : RegistrationList) (ms : List (Option Module)) (ls ks : List (Option LoadedModule)) (order : List ℕ) (r : RunWorld) (zip : AllZip (IsSoundPlace R) ms ls) (apart : AreApart ms) where
  abbrev after : World
  after = left_to (record { places = places_of ms ks; order = order }) r

  -- What one of these modules asks is entitled, whatever is built of them now.
  pub entitled_one : (e : HostEvent) → IsAskedIn (modules_of ls) e → IsEntitled R after e
  entitled_one (Called caller entity driver object args reply) h =
      let s = shown_at R ms ls (λ V. IsSome (entry_at V entity.0)) (λ V W within q. some_up V W entity.0 (entry_at V entity.0) refl within q) (some_none entity.0) zip h.0 h.2 in (
        h.0,
        ap (λ n. position (has_name n) (places_of ms ks)) (h.1 ∙ s.name) ∙ named_there ms ks apart h.0 s.own s.there,
        subst (λ (o : Option ModuleState). IsSome (entry_at (seen R (module_in o).built_mask) entity.0)) (sym (place_read ms ks h.0 s.own s.there)) s.view,
      )
  entitled_one (Ended driver key) h = tt

  pub all_entitled : (es : List HostEvent) → AllByRecursion (IsAskedIn (modules_of ls)) es → All (IsEntitled R after) es
  all_entitled [] h = All-nil (IsEntitled R after)
  all_entitled (e ∷ es) h = All-cons (IsEntitled R after) e es (entitled_one e h.0) (all_entitled es h.1)

-- Where no module ran only ends are listed.
end_entitled : (R : RegistrationList) (w : World) (e : HostEvent) → IsAskedIn [] e → IsEntitled R w e
end_entitled R w (Called caller entity driver object args reply) h = absurd (some_none entity.0 h.2)
end_entitled R w (Ended driver key) h = tt

pub ends_entitled : (R : RegistrationList) (w : World) (es : List HostEvent) → AllByRecursion (IsAskedIn []) es → All (IsEntitled R w) es
ends_entitled R w [] h = All-nil (IsEntitled R w)
ends_entitled R w (e ∷ es) h = All-cons (IsEntitled R w) e es (end_entitled R w e h.0) (ends_entitled R w es h.1)

pub agrees_none : (roles : List Role) → AgreesWith roles []
agrees_none roles = record { each = λ m n u e. absurd (no_use n u e) }

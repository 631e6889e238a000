-- A group that is removed: the code asks what modules keep by the group's numbers alone, and it is what the command asks.
use Rattle.std.proofs.Common.{◌≡◌, ◌+◌, ◌-◌, ◌<◌, ◌≤◌, refl, ap, sym, ◌∙◌, subst, arith, ℕ, Bool, true, false, ◌&&◌, ◌||◌, List, [], ◌∷◌, length, Option, Some, None}
use Rattle.std.specs.Prelude.{Result, Ok, Err, find, if◌then◌else◌, is_some, nat_le, nat_lt}
use Rattle.std.proofs.lemmas.Slice.Eq.{bytes_eq-Decides}
use Rattle.std.specs.List.{AllZip, list_any, range_with_len}
use Rattle.std.proofs.lemmas.Bool.{leb-true, le-leb}
use Rattle.std.proofs.lemmas.Bool.Decides.{Decides-ltb}
use Rattle.ang_view.specs.declared.entry.Entry.{Entry}
use Rattle.ang_view.specs.declared.group.Group.{Group}
use Rattle.ang_view.specs.Groups.{Grouped, group_named, is_called, is_in, is_named_outside, left_outside, without_group, without_name}
use Rattle.ang_view.specs.Only.{IsWithin, only}
use Rattle.ang_view.specs.Registration.{RegistrationList, entry_at, seen}
use Rattle.ang_view.proofs.Entries.{entry_at-lt}
use Rattle.ang_view.proofs.Grouping.{none_at}
use Rattle.ang_view.proofs.Lists.{and_from, and_gives}
use Rattle.ang_registry.specs.declared.error.GroupError.{GroupError}
use Rattle.ang_registry.specs.declared.error.GroupError.TheVariants.{InUse as GroupInUse}
use Rattle.ang_registry.specs.Groups.{refusal_of_removal, removal_row, where_found, with_removed, without}
use Rattle.ang_registry.specs.Registrations.{Registrations, closed_of, grouped, without_last}
use Rattle.ang_engine_modules.specs.declared.modules.LoadedModule.{LoadedModule}
use Rattle.ang_engine_modules.specs.declared.module.Module.{Module}
use Rattle.ang_engine_modules.specs.declared.module.ModuleList.{ModuleList}
use Rattle.ang_engine_modules.specs.declared.reply.Refusal.{Refusal}
use Rattle.ang_engine_modules.specs.Commands.{refused}
use Rattle.ang_engine_modules.specs.Keeping.{keeps, keeps_group, keeps_some, place_keeps, place_keeps_some}
use Rattle.ang_engine_modules.specs.Outcomes.{IsDoneWithoutMemory}
use Rattle.ang_engine_modules.specs.States.{place_of, places_of, states_in}
use Rattle.ang_engine_modules.specs.World.{World}
use Rattle.ang_engine.specs.Groups.{Removal, Removed, NoGroup, InUse, IsRemoved, is_used, place_uses, removal, removal_of, removing}
use Rattle.ang_engine.specs.Sound.{AreSoundModules, IsSoundPlace}
use Rattle.ang_engine.proofs.Closing.{alike_false, closing, no_true, none_from, second}
use Rattle.ang_engine.proofs.Entries.{registered}
use Rattle.ang_engine.proofs.Standing.{modules_left}

-- ---- one module

in_range : (g : Group) (n : ℕ) → g.first ≤ n → n < g.after → is_in g n ≡ true
in_range g n low high = and_from (nat_le g.first n) (nat_lt n g.after) (le-leb g.first n low) ((Decides-ltb n g.after).1 high)

from_range : (g : Group) (n : ℕ) → is_in g n ≡ true → (g.first ≤ n) × (n < g.after)
from_range g n inside =
    let e = and_gives (nat_le g.first n) (nat_lt n g.after) inside in
    (leb-true g.first n e.0, (Decides-ltb n g.after).0 e.1)

only_inside : (b c : Bool) → (b ≡ true → c ≡ false) → (b && c) ≡ false
only_inside true c h = h refl
only_inside false c h = refl

-- what is no entry of the list is not kept
kept_by : (R V : RegistrationList) (g : Group) (n : ℕ) → IsWithin V R → keeps_group R g V ≡ false → is_in g n ≡ true → (o : Option Entry) → entry_at V n ≡ o → keeps V n ≡ false
kept_by R V g n within less inside None at = ap is_some at
kept_by R V g n within less inside (Some x) at =
    let lt : n < length R = entry_at-lt R n x (within n x at) in
    second (is_in g n) (keeps V n) (none_at (λ i. is_in g i && keeps V i) 0 (length R) n (omega arith) (omega (arith, lt)) less) inside

-- a module of this view keeps an entry of the group, by its numbers alone
pub some_kept : (R V : RegistrationList) (g : Group) → IsWithin V R → keeps_some g V ≡ keeps_group R g V
some_kept R V g within =
    alike_false (keeps_some g V) (keeps_group R g V)
    (λ e. none_from (λ i. is_in g i && keeps V i) 0 (length R) (λ n low high.
    only_inside (is_in g n) (keeps V n) (λ inside.
    let r = from_range g n inside in
    none_at (keeps V) g.first (g.after - g.first) n r.0 (omega (arith, r.0, r.1)) e)))
    (λ e. none_from (keeps V) g.first (g.after - g.first) (λ n low high.
    kept_by R V g n within e (in_range g n low (omega (arith, low, high))) (entry_at V n) refl))

-- ---- all modules

module _ (R : RegistrationList) (g : Group) where
  stands_within : (V : RegistrationList) (mask : ℕ) → IsWithin V (seen R mask) → IsWithin V R
  stands_within V mask h n x e = registered R mask n x (h n x e)

  one_keeps : (m : Option Module) (l : Option LoadedModule) → IsSoundPlace R m l → place_keeps_some g l ≡ place_keeps R g l
  one_keeps None None h = refl
  one_keeps None (Some l) h = absurd h
  one_keeps (Some m) None h = refl
  one_keeps (Some m) (Some l) h = some_kept R l.view g (stands_within l.view m.built_mask.0 h.stands)

  -- so it is of each place
  pub all_keep : (ms : List (Option Module)) (ls : List (Option LoadedModule)) → AllZip (IsSoundPlace R) ms ls → list_any (place_keeps_some g) ls ≡ list_any (place_keeps R g) ls
  all_keep [] [] h = refl
  all_keep [] (l ∷ ls) h = absurd h
  all_keep (m ∷ ms) [] h = absurd h
  all_keep (m ∷ ms) (l ∷ ls) h = ap (λ b. b || list_any (place_keeps_some g) ls) (one_keeps m l h.0) ∙ ap (λ b. place_keeps R g l || b) (all_keep ms ls h.1)

  module _ (free : is_named_outside R g ≡ false) where
    one_uses : (m : Option Module) (l : Option LoadedModule) → IsSoundPlace R m l → place_uses R g (place_of m l) ≡ place_keeps R g l
    one_uses None None h = refl
    one_uses None (Some l) h = absurd h
    one_uses (Some m) None h = refl
    one_uses (Some m) (Some l) h = closing R l.view g free (stands_within l.view m.built_mask.0 h.stands)

    -- and what the command asks is the same, where nothing outside names a type of the group
    all_use : (ms : List (Option Module)) (ls : List (Option LoadedModule)) → AllZip (IsSoundPlace R) ms ls → list_any (place_uses R g) (places_of ms ls) ≡ list_any (place_keeps R g) ls
    all_use [] [] h = refl
    all_use [] (l ∷ ls) h = absurd h
    all_use (m ∷ ms) [] h = absurd h
    all_use (m ∷ ms) (l ∷ ls) h =
        ap (λ b. b || list_any (place_uses R g) (places_of ms ls)) (one_uses m l h.0) ∙ ap (λ b. place_keeps R g l || b) (all_use ms ls h.1)

  pub are_used : (x : ModuleList) → AreSoundModules R x → is_named_outside R g ≡ false → is_used R g (states_in x) ≡ list_any (place_keeps_some g) x.code
  are_used x sound free = all_use free x.places.items x.code sound.each ∙ sym (all_keep x.places.items x.code sound.each)

-- ---- what is left in the registry

found_name : (name : List ℕ) (gs : List Group) (g : Group) → find (is_called name) gs ≡ Some g → g.name ≡ name
found_name name [] g e = cc
found_name name (x ∷ gs) g e = by (is_called name x) refl e (found_name name gs g)
  where
    by : (b : Bool) → is_called name x ≡ b → (if b then Some x else find (is_called name) gs) ≡ Some g → (find (is_called name) gs ≡ Some g → g.name ≡ name) → g.name ≡ name
    by true called e later = let same : x ≡ g = cc in subst (λ (y : Group). y.name ≡ name) same ((bytes_eq-Decides x.name name).0 called)
    by false called e later = later e

unended : (x : Group) (gs : List Group) → (gs ≡ [] → ⊥) → without_last (x ∷ gs) ≡ x ∷ without_last gs
unended x [] more = absurd (more refl)
unended x (y ∷ gs) more = refl

some_left : (name : List ℕ) (y : Group) (gs : List Group) (g : Group) → find (is_called name) (without_last (y ∷ gs)) ≡ Some g → without_name name (y ∷ gs) ≡ [] → ⊥
some_left name y [] g found = λ e. cc
some_left name y (z ∷ gs) g found = by (is_called name y)
  where
    by : (b : Bool) → (if b then (z ∷ gs) else (y ∷ without_name name (z ∷ gs))) ≡ [] → ⊥
    by true e = cc
    by false e = cc

-- the group that is open still is the last one still
last_stays : (name : List ℕ) (gs : List Group) (g : Group) → find (is_called name) (without_last gs) ≡ Some g → without_last (without_name name gs) ≡ without_name name (without_last gs)
last_stays name [] g found = refl
last_stays name (x ∷ []) g found = cc
last_stays name (x ∷ y ∷ gs) g found = by (is_called name x) found (last_stays name (y ∷ gs) g)
  where
    by : (b : Bool) → (if b then Some x else find (is_called name) (without_last (y ∷ gs))) ≡ Some g
        → (find (is_called name) (without_last (y ∷ gs)) ≡ Some g → without_last (without_name name (y ∷ gs)) ≡ without_name name (without_last (y ∷ gs)))
        → without_last (if b then (y ∷ gs) else (x ∷ without_name name (y ∷ gs))) ≡ (if b then without_last (y ∷ gs) else (x ∷ without_name name (without_last (y ∷ gs))))
    by true e later = refl
    by false e later = unended x (without_name name (y ∷ gs)) (some_left name y gs g e) ∙ ap (λ l. x ∷ l) (later e)

ended_stay : (b : Bool) (name : List ℕ) (gs : List Group) (g : Group) → find (is_called name) (closed_of b gs) ≡ Some g → closed_of b (without_name name gs) ≡ without_name name (closed_of b gs)
ended_stay true name gs g found = last_stays name gs g found
ended_stay false name gs g found = refl

pub grouped_left : (r : Registrations) (name : List ℕ) (g : Group) → group_named name (grouped r) ≡ Some g → grouped (with_removed r g) ≡ without_group g (grouped r)
grouped_left r name g found =
    let own : name ≡ g.name = sym (found_name name (closed_of r.is_open r.groups) g found) in
    ap (λ gs. record { entries = only (left_outside g) r.entries; groups = gs })
    (ended_stay r.is_open g.name r.groups g (subst (λ n. find (is_called n) (closed_of r.is_open r.groups) ≡ Some g) own found))

-- ---- the command

no_refusal : (b : Bool) → (if b then Some GroupInUse else None) ≡ None → b ≡ false
no_refusal true e = cc
no_refusal false e = refl

some_refusal : (b : Bool) (why : GroupError) → (if b then Some GroupInUse else None) ≡ Some why → (b ≡ true) × (why ≡ GroupInUse)
some_refusal true why e = (refl, cc)
some_refusal false why e = cc

module _ (r : Registrations) (x : ModuleList) (name : List ℕ) where
  abbrev pub what : Removal
  what = removal name (grouped r) (states_in x)

  pub none_found : group_named name (grouped r) ≡ None → what ≡ NoGroup
  none_found e = ap (λ o. removal_of o (grouped r) (states_in x)) e

  module _ (g : Group) (found : group_named name (grouped r) ≡ Some g) where
    this_one : (y : Removal) → removal_of (Some g) (grouped r) (states_in x) ≡ y → what ≡ y
    this_one y e = ap (λ o. removal_of o (grouped r) (states_in x)) found ∙ e

    pub is_outside : is_named_outside r.entries g ≡ true → what ≡ InUse
    is_outside e = this_one InUse (ap (λ b. if b || is_used r.entries g (states_in x) then InUse else Removed (without_group g (grouped r))) e)

    pub refused_outside : (why : GroupError) → refusal_of_removal r name ≡ Some why → (what ≡ InUse) × (why ≡ GroupInUse)
    refused_outside why e =
        let p = some_refusal (is_named_outside r.entries g) why (sym (ap (removal_row r) found) ∙ e) in
        (is_outside p.0, p.1)

    pub not_outside : refusal_of_removal r name ≡ None → is_named_outside r.entries g ≡ false
    not_outside e = no_refusal (is_named_outside r.entries g) (sym (ap (removal_row r) found) ∙ e)

    pub removed_now : without r name ≡ with_removed r g
    removed_now = ap (where_found r) found

    module _ (sound : AreSoundModules r.entries x) where
      pub is_kept : list_any (place_keeps_some g) x.code ≡ true → what ≡ InUse
      is_kept kept = this_one InUse (by (is_named_outside r.entries g) refl)
        where
          by : (b : Bool) → is_named_outside r.entries g ≡ b → (if b || is_used r.entries g (states_in x) then InUse else Removed (without_group g (grouped r))) ≡ InUse
          by true e = refl
          by false e = ap (λ b. if b then InUse else Removed (without_group g (grouped r))) (are_used r.entries g x sound e ∙ kept)

      module _ (free : is_named_outside r.entries g ≡ false) (left : list_any (place_keeps_some g) x.code ≡ false) where
        pub is_removed : what ≡ Removed (without_group g (grouped r))
        is_removed =
            this_one (Removed (without_group g (grouped r)))
            (ap (λ b. if b || is_used r.entries g (states_in x) then InUse else Removed (without_group g (grouped r))) free
            ∙ ap (λ b. if b then InUse else Removed (without_group g (grouped r))) (are_used r.entries g x sound free ∙ left))

        pub left_sound : AreSoundModules (only (left_outside g) r.entries) x
        left_sound = record {
          each = modules_left r.entries g x.places.items x.code (sym (all_keep r.entries g x.places.items x.code sound.each) ∙ left) sound.each;
          apart = sound.apart;
          few = sound.few;
          listed = sound.listed;
        }

-- the command has done what was answered, and the world is as it was
pub removed-done : {U : Type 0} (r : Result U Refusal) (y : Removal) (w : World) → IsRemoved r y → IsDoneWithoutMemory r (removing y w) w w
removed-done (Ok u) (Removed s) w h = λ rest. refl
removed-done (Ok u) NoGroup w h = absurd h
removed-done (Ok u) InUse w h = absurd h
removed-done (Err why) (Removed s) w h = absurd h
removed-done (Err why) NoGroup w h = (λ rest. ap (λ y. refused y w rest) (sym h), refl)
removed-done (Err why) InUse w h = (λ rest. ap (λ y. refused y w rest) (sym h), refl)

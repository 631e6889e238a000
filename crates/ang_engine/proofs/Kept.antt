-- What the modules of an engine keep through the commands that neither build nor run.
use Rattle.std.proofs.Common.{◌≡◌, ◌≢◌, ◌⊎◌, inl, inr, refl, ap, sym, ◌∙◌, subst, arith, ℕ, zero, suc, Bool, true, false, cond, List, [], ◌∷◌, length, Option, Some, None, map}
use Rattle.std.specs.Prelude.{◌==◌, not, filter, Contains, OnOk, OnErr, Result, Ok, Err, slice_get, slice_index_or, slice_set}
use Rattle.std.specs.List.{AllZip}
use Rattle.std.proofs.lemmas.Bool.{eqb-true, false_from_ne_true}
use Rattle.std.proofs.lemmas.List.{length-map}
use Rattle.ang_view.specs.Registration.{RegistrationList}
use Rattle.ang_meaning.specs.declared.routine.Routine.{Routine}
use Rattle.ang_meaning.specs.declared.slot.Slot.{Slot}
use Rattle.ang_meaning.specs.World.{World as RunWorld}
use Rattle.ang_meaning.specs.Counting.{IsCounted}
use Rattle.ang_engine_modules.specs.declared.modules.LoadedModule.{LoadedModule}
use Rattle.ang_engine_modules.specs.Loaded.{with_link, linked_in, unbound_in}
use Rattle.ang_engine_modules.specs.declared.module.Module.{Module}
use Rattle.ang_engine_modules.specs.declared.module.ModuleList.{ModuleList}
use Rattle.ang_engine_modules.specs.declared.reply.Refusal.{Refusal}
use Rattle.ang_engine_modules.specs.Sound.{IsKeptPlace, ArePlacesKept, IsSameList, HaveGlobals}
use Rattle.ang_engine_modules.specs.Taken.{HasTaken}
use Rattle.ang_engine_modules.proofs.Adding.{taken_modules, taken_globals, ready_counted, same_globals}
use Rattle.ang_engine_modules.proofs.Keeping.{WasThere, same_modules}
use Rattle.ang_engine_modules.proofs.PlaceLists.{set_length}
use Rattle.ang_engine_modules.proofs.Worlds.{zip_length, zip_set, place_changed}
use Rattle.ang_engine.specs.Sound.{IsBuiltBy, IsSoundPlace, AreSoundModules}
use Rattle.ang_engine.proofs.GlobalsEnd.{emptied_at}
use Rattle.ang_engine.proofs.Places.{zip_unbound}

-- ---- modules that stay in their places, with their names and built masks

place_kept : (R : RegistrationList) (d n : Option Module) (l : Option LoadedModule) → IsKeptPlace d n → IsSoundPlace R d l → IsSoundPlace R n l
place_kept R None None l kept h = h
place_kept R None (Some n) l kept h = absurd kept
place_kept R (Some d) None l kept h = absurd kept
place_kept R (Some d) (Some n) None kept h = tt
place_kept R (Some d) (Some n) (Some l) kept h = subst (λ name. IsBuiltBy R name n.built_mask.0 l) (sym kept.0) (subst (λ mask. IsBuiltBy R d.name mask.0 l) (sym kept.1) h)

places_kept : (R : RegistrationList) (xs ys : List (Option Module)) (ls : List (Option LoadedModule)) → AllZip IsKeptPlace xs ys → AllZip (IsSoundPlace R) xs ls → AllZip (IsSoundPlace R) ys ls
places_kept R [] [] ls kept h = h
places_kept R [] (y ∷ ys) ls kept h = absurd kept
places_kept R (x ∷ xs) [] ls kept h = absurd kept
places_kept R (x ∷ xs) (y ∷ ys) [] kept h = absurd h
places_kept R (x ∷ xs) (y ∷ ys) (l ∷ ls) kept h = (place_kept R x y l kept.0 h.0, places_kept R xs ys ls kept.1 h.1)

one_from : (d n : Option Module) (m : Module) → IsKeptPlace d n → Some n ≡ Some (Some m) → WasThere (d ∷ []) 0 m
one_from None None m kept at = absurd (cc)
one_from None (Some n) m kept at = absurd kept
one_from (Some d) None m kept at = absurd kept
one_from (Some d) (Some n) m kept at =
    let same : n ≡ m = cc in
    record { own = d; there = refl; name = ap (λ (x : Module). x.name) (sym same) ∙ kept.0 }

kept_from : (xs ys : List (Option Module)) (j : ℕ) (m : Module) → AllZip IsKeptPlace xs ys → slice_get ys j ≡ Some (Some m) → WasThere xs j m
kept_from [] [] j m kept at = absurd (cc)
kept_from [] (y ∷ ys) j m kept at = absurd kept
kept_from (x ∷ xs) [] j m kept at = absurd kept
kept_from (x ∷ xs) (y ∷ ys) zero m kept at = let r = one_from x y m kept.0 at in record { own = r.own; there = r.there; name = r.name }
kept_from (x ∷ xs) (y ∷ ys) (suc j) m kept at = let r = kept_from xs ys j m kept.1 at in record { own = r.own; there = r.there; name = r.name }

none_one : (d n : Option Module) → IsKeptPlace d n → Some n ≡ Some None → Some d ≡ Some None
none_one None n kept at = refl
none_one (Some d) None kept at = absurd kept
none_one (Some d) (Some n) kept at = absurd (cc)

none_kept : (xs ys : List (Option Module)) (j : ℕ) → AllZip IsKeptPlace xs ys → slice_get ys j ≡ Some None → slice_get xs j ≡ Some None
none_kept [] [] j kept at = absurd (cc)
none_kept [] (y ∷ ys) j kept at = absurd kept
none_kept (x ∷ xs) [] j kept at = absurd kept
none_kept (x ∷ xs) (y ∷ ys) zero kept at = none_one x y kept.0 at
none_kept (x ∷ xs) (y ∷ ys) (suc j) kept at = none_kept xs ys j kept.1 at

pub kept_sound : (R : RegistrationList) (x y : ModuleList) → ArePlacesKept x y → AreSoundModules R x → AreSoundModules R y
kept_sound R x y k h =
    let was : (j : ℕ) (m : Module) → slice_get y.places.items j ≡ Some (Some m) → WasThere x.places.items j m = λ j m at. kept_from x.places.items y.places.items j m k.places at in
    record {
      each = subst (λ l. AllZip (IsSoundPlace R) y.places.items l) (sym k.code) (places_kept R x.places.items y.places.items x.code k.places h.each);
      apart = λ i j m n at bt same.
          let a = was i m at in
          let b = was j n bt in
          h.apart i j a.own b.own a.there b.there (sym a.name ∙ same ∙ b.name);
      few = omega (arith, h.few, zip_length IsKeptPlace x.places.items y.places.items k.places);
      listed = λ i m at. let a = was i m at in subst (λ l. Contains l i) (sym k.order) (h.listed i a.own a.there);
    }

pub kept_globals : (x y : ModuleList) (gs : List (List Slot)) → ArePlacesKept x y → HaveGlobals x gs → HaveGlobals y gs
kept_globals x y gs k h = record {
  count = h.count ∙ sym (zip_length IsKeptPlace x.places.items y.places.items k.places);
  none = λ i at. h.none i (none_kept x.places.items y.places.items i k.places at);
}

-- ---- a new module

-- nothing is built in an empty place
pub nothing_built : (R : RegistrationList) (ms : List (Option Module)) (ls : List (Option LoadedModule)) (i : ℕ) → AllZip (IsSoundPlace R) ms ls → slice_get ms i ≡ Some None → slice_index_or ls i None ≡ None
nothing_built R [] [] i h at = refl
nothing_built R [] (l ∷ ls) i h at = absurd h
nothing_built R (m ∷ ms) [] i h at = refl
nothing_built R (None ∷ ms) (None ∷ ls) zero h at = refl
nothing_built R (None ∷ ms) (Some l ∷ ls) zero h at = absurd h.0
nothing_built R (Some m ∷ ms) (l ∷ ls) zero h at = absurd (cc)
nothing_built R (m ∷ ms) (l ∷ ls) (suc i) h at = nothing_built R ms ls i h.1 at

-- it was added, or nothing has changed
module _ {U : Type 0} (x z : ModuleList) (gs hs : List (List Slot)) (name : List ℕ) where
  pub added_sound : (R : RegistrationList) (r : Result U Refusal) → OnOk r ((one : Module) × (one.name ≡ name) × HasTaken x gs one z hs)
      → OnOk r ((i : ℕ) (m : Module) → slice_get x.places.items i ≡ Some (Some m) → m.name ≢ name) → OnErr r (IsSameList x z) → AreSoundModules R x → AreSoundModules R z
  added_sound R (Ok u) taken free same h = taken_modules x z gs hs taken.0 taken.2 (IsBuiltBy R) (λ j q at e. free j q at (e ∙ taken.1)) h
  added_sound R (Err why) taken free same h = same_modules (IsBuiltBy R) x z same.places same.code same.order h

  pub added_globals : (r : Result U Refusal) → OnOk r ((one : Module) × (one.name ≡ name) × HasTaken x gs one z hs) → OnErr r (IsSameList x z) → OnErr r (hs ≡ gs) → HaveGlobals x gs → HaveGlobals z hs
  added_globals (Ok u) taken same globals h = taken_globals x z gs hs taken.0 taken.2 h
  added_globals (Err why) taken same globals h = same_globals x z gs hs same.places globals h

  pub added_counted : (r : Result U Refusal) (w : RunWorld) → OnOk r ((one : Module) × (one.name ≡ name) × HasTaken x gs one z hs) → OnErr r (hs ≡ gs) → IsCounted [] (record w { globals = gs })
      → IsCounted [] (record w { globals = hs })
  added_counted (Ok u) w taken globals h = ready_counted x taken.2.readied gs hs taken.2.place taken.2.ready w h
  added_counted (Err why) w taken globals h = subst (λ l. IsCounted [] (record w { globals = l })) (sym globals) h

-- ---- an import that leads elsewhere

linked_each : (R : RegistrationList) (index : ℕ) (link : Option Routine) (ms : List (Option Module)) (ls : List (Option LoadedModule)) (i : ℕ) → AllZip (IsSoundPlace R) ms ls
    → AllZip (IsSoundPlace R) ms (linked_in i index link ls)
linked_each R index link [] [] i h = tt
linked_each R index link [] (l ∷ ls) i h = absurd h
linked_each R index link (m ∷ ms) [] i h = absurd h
linked_each R index link (m ∷ ms) (l ∷ ls) zero h =
    (place_changed (IsBuiltBy R) (with_link index link) (λ name mask x b. record { name = b.name; sight = b.sight; sections = b.sections; built = b.built; view = b.view; stands = b.stands }) m l h.0, h.1)
linked_each R index link (m ∷ ms) (l ∷ ls) (suc i) h = (h.0, linked_each R index link ms ls i h.1)

-- other code in the same places
pub code_sound : (R : RegistrationList) (x y : ModuleList) → y.places.items ≡ x.places.items → y.order.items ≡ x.order.items → AllZip (IsSoundPlace R) x.places.items y.code → AreSoundModules R x
    → AreSoundModules R y
code_sound R x y places order each h = record {
  each = subst (λ l. AllZip (IsSoundPlace R) l y.code) (sym places) each;
  apart = λ i j m n at bt same. h.apart i j m n (sym (ap (λ l. slice_get l i) places) ∙ at) (sym (ap (λ l. slice_get l j) places) ∙ bt) same;
  few = omega (arith, h.few, ap length places);
  listed = λ i m at. subst (λ l. Contains l i) (sym order) (h.listed i m (sym (ap (λ l. slice_get l i) places) ∙ at));
}

pub linked_sound : (R : RegistrationList) (x y : ModuleList) (i index : ℕ) (link : Option Routine) → y.places.items ≡ x.places.items → y.order.items ≡ x.order.items
    → y.code ≡ linked_in i index link x.code → AreSoundModules R x → AreSoundModules R y
linked_sound R x y i index link places order code h =
    code_sound R x y places order (subst (λ l. AllZip (IsSoundPlace R) x.places.items l) (sym code) (linked_each R index link x.places.items x.code i h.each)) h

-- it leads elsewhere, or nothing was done
pub linked_or_same : {U : Type 0} (R : RegistrationList) (x y : ModuleList) (r : Result U Refusal) (index : ℕ) (link : Option Routine) → y.places ≡ x.places → y.order ≡ x.order
    → OnOk r ((i : ℕ) × (y.code ≡ linked_in i index link x.code)) → OnErr r (y.code ≡ x.code) → AreSoundModules R x → AreSoundModules R y
linked_or_same R x y (Ok u) index link places order code same h = linked_sound R x y code.0 index link (ap (λ v. v.items) places) (ap (λ v. v.items) order) code.1 h
linked_or_same R x y (Err why) index link places order code same h =
    code_sound R x y (ap (λ v. v.items) places) (ap (λ v. v.items) order) (subst (λ l. AllZip (IsSoundPlace R) x.places.items l) (sym same) h.each) h

pub same_places : (x y : ModuleList) (gs : List (List Slot)) → y.places ≡ x.places → HaveGlobals x gs → HaveGlobals y gs
same_places x y gs places h = record {
  count = h.count ∙ sym (ap (λ v. length v.items) places);
  none = λ i at. h.none i (sym (ap (λ v. slice_get v.items i) places) ∙ at);
}

-- ---- a module that is discarded

-- a number that is left of the order
behind : (b : Bool) (x : ℕ) (ys : List ℕ) (j : ℕ) → Contains ys j → Contains (cond b (x ∷ ys) ys) j
behind true x ys j (k, lt, at) = (suc k, omega (arith, lt), at)
behind false x ys j h = h

filter_has : (p : ℕ → Bool) (xs : List ℕ) (j : ℕ) → p j ≡ true → Contains xs j → Contains (filter p xs) j
filter_has p [] j e (k, lt, at) = absurd (omega (arith, lt))
filter_has p (x ∷ xs) j e (zero, lt, at) = subst (λ b. Contains (cond b (x ∷ filter p xs) (filter p xs)) j) (sym (ap p at ∙ e)) (0, omega arith, at)
filter_has p (x ∷ xs) j e (suc k, lt, at) = behind (p x) x (filter p xs) j (filter_has p xs j e (k, omega (arith, lt), at))

other_number : (i j : ℕ) → (j ≡ i → ⊥) → not (j == i) ≡ true
other_number i j other = ap not (false_from_ne_true (j == i) (λ e. other (eqb-true j i e)))

-- a module that is there still
record IsOther (ms : List (Option Module)) (i j : ℕ) (m : Module) : Type 0 where
  there : slice_get ms j ≡ Some (Some m)
  other : j ≡ i → ⊥

still_there : (ms : List (Option Module)) (i j : ℕ) (m : Module) → slice_get (slice_set ms i None) j ≡ Some (Some m) → IsOther ms i j m
still_there [] i j m at = absurd (cc)
still_there (d ∷ ms) zero zero m at = absurd (cc)
still_there (d ∷ ms) zero (suc j) m at = record { there = at; other = λ e. absurd (omega (arith, e)) }
still_there (d ∷ ms) (suc i) zero m at = record { there = at; other = λ e. absurd (omega (arith, e)) }
still_there (d ∷ ms) (suc i) (suc j) m at = let r = still_there ms i j m at in record { there = r.there; other = λ e. r.other (omega (arith, e)) }

next_or : (i j : ℕ) (A : Type 0) → (j ≡ i) ⊎ A → (suc j ≡ suc i) ⊎ A
next_or i j A (inl e) = inl (ap suc e)
next_or i j A (inr h) = inr h

-- an empty place is the one that it left, or was empty
empty_or : (ms : List (Option Module)) (i j : ℕ) → slice_get (slice_set ms i None) j ≡ Some None → (j ≡ i) ⊎ (slice_get ms j ≡ Some None)
empty_or [] i j at = absurd (cc)
empty_or (d ∷ ms) zero zero at = inl refl
empty_or (d ∷ ms) zero (suc j) at = inr at
empty_or (d ∷ ms) (suc i) zero at = inr at
empty_or (d ∷ ms) (suc i) (suc j) at = next_or i j (slice_get ms j ≡ Some None) (empty_or ms i j at)

module _ (x y : ModuleList) (home : ℕ) (places : y.places.items ≡ slice_set x.places.items home None) where
  pub removed_sound : (R : RegistrationList) → y.code ≡ unbound_in home (slice_set x.code home None) → y.order.items ≡ filter (λ j. not (j == home)) x.order.items → AreSoundModules R x
      → AreSoundModules R y
  removed_sound R code order h =
      let still : (j : ℕ) (m : Module) → slice_get y.places.items j ≡ Some (Some m) → IsOther x.places.items home j m = λ j m at. still_there x.places.items home j m (sym (ap (λ l. slice_get l j) places) ∙ at) in
      record {
        each = subst (λ l. AllZip (IsSoundPlace R) l y.code) (sym places)
            (subst (λ l. AllZip (IsSoundPlace R) (slice_set x.places.items home None) l) (sym code)
            (zip_unbound R home (slice_set x.places.items home None) (slice_set x.code home None) (zip_set (IsSoundPlace R) x.places.items x.code home None None h.each tt)));
        apart = λ i j m n at bt same. h.apart i j m n (still i m at).there (still j n bt).there same;
        few = omega (arith, h.few, ap length places, set_length x.places.items home None);
        listed = λ j m at.
            let s = still j m at in
            subst (λ l. Contains l j) (sym order) (filter_has (λ k. not (k == home)) x.order.items j (other_number home j s.other) (h.listed j m s.there));
      }

  none_left : (gs : List (List Slot)) → HaveGlobals x gs → (j : ℕ) → (j ≡ home) ⊎ (slice_get x.places.items j ≡ Some None) → slice_index_or (slice_set gs home []) j [] ≡ []
  none_left gs h j (inl e) = emptied_at gs home j (inl e)
  none_left gs h j (inr at) = emptied_at gs home j (inr (h.none j at))

  pub removed_globals : (gs hs : List (List Slot)) → hs ≡ slice_set gs home [] → HaveGlobals x gs → HaveGlobals y hs
  removed_globals gs hs ended h = record {
    count = omega (arith, h.count, ap length ended, set_length gs home [], ap length places, set_length x.places.items home None);
    none = λ j at. ap (λ l. slice_index_or l j []) ended ∙ none_left gs h j (empty_or x.places.items home j (sym (ap (λ l. slice_get l j) places) ∙ at));
  }

-- ---- a run, which leaves each module as many globals as it had

no_items : {A : Type 0} (xs : List A) → length xs ≡ 0 → xs ≡ []
no_items [] e = refl
no_items (x ∷ xs) e = absurd (omega (arith, e))

same_count : (x y : List Slot) (xs ys : List ℕ) → length x ∷ xs ≡ length y ∷ ys → length x ≡ length y
same_count x y xs ys e = cc

same_others : (x y : List Slot) (xs ys : List ℕ) → length x ∷ xs ≡ length y ∷ ys → xs ≡ ys
same_others x y xs ys e = cc

none_still : (gs hs : List (List Slot)) (j : ℕ) → map length hs ≡ map length gs → slice_index_or gs j [] ≡ [] → slice_index_or hs j [] ≡ []
none_still gs [] j same e = refl
none_still [] (h ∷ hs) j same e = absurd (cc)
none_still (g ∷ gs) (h ∷ hs) zero same e = no_items h (same_count h g (map length hs) (map length gs) same ∙ ap length e)
none_still (g ∷ gs) (h ∷ hs) (suc j) same e = none_still gs hs j (same_others h g (map length hs) (map length gs) same) e

pub run_globals : (x : ModuleList) (gs hs : List (List Slot)) → map length hs ≡ map length gs → HaveGlobals x gs → HaveGlobals x hs
run_globals x gs hs same h = record {
  count = sym (length-map hs length) ∙ ap length same ∙ length-map gs length ∙ h.count;
  none = λ i at. none_still gs hs i same (h.none i at);
}

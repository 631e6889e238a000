-- A new module.
use Rattle.std.proofs.Common.{◌≡◌, ◌⊎◌, ◌<◌, ◌≤◌, ◌+◌, refl, ap, sym, ◌∙◌, subst, inl, inr, ℕ, zero, suc, true, false, List, [], ◌∷◌, ◌++◌, length, length-append, Option, Some, None, arith}
use Rattle.std.specs.Prelude.{Contains, Result, Ok, Err, IfErr, OnOk, OnErr, is_none, nat_le, position, if◌then◌else◌, slice_get, slice_index_or, slice_set}
use Rattle.std.specs.List.{AllZip, position_from}
use Rattle.std.proofs.lemmas.Bool.{le-leb, lt-leb}
use Rattle.std.proofs.lemmas.List.Elements.{Contains-append_left, Contains-append_right}
use Rattle.std.proofs.lemmas.Iterator.Adapters.{position_from-zero}
use Rattle.ang_lex.specs.Spelling.{is_identifier}
use Rattle.ang_view.proofs.Seen.{position-passes}
use Rattle.ang_meaning.specs.declared.slot.Slot.{Slot}
use Rattle.ang_meaning.specs.World.{Input, World as RunWorld}
use Rattle.ang_meaning.specs.Counting.{Thing, in_lists, IsCounted}
use Rattle.ang_engine_modules.specs.declared.modules.LoadedModule.{LoadedModule}
use Rattle.ang_engine_modules.specs.declared.module.Module.{Module}
use Rattle.ang_engine_modules.specs.declared.module.ModuleList.{ModuleList}
use Rattle.ang_engine_modules.specs.declared.reply.Outcome.TheVariants.{Done}
use Rattle.ang_engine_modules.specs.declared.reply.Refusal.{Refusal}
use Rattle.ang_engine_modules.specs.declared.reply.Refusal.TheVariants.{BadName, ModuleExists, Limit, Memory}
use Rattle.ang_engine_modules.specs.World.{ModuleState, World, module_named, left_to}
use Rattle.ang_engine_modules.specs.States.{state_of, place_of, places_of, states_in}
use Rattle.ang_engine_modules.specs.Commands.{answered, refused, fresh_module, with_place, with_module, in_place, empty_place, where_free, added_module}
use Rattle.ang_engine_modules.specs.Outcomes.{IsRefused, IsDone}
use Rattle.ang_engine_modules.specs.Sound.{IsPlaceOf, AreModules, HaveGlobals}
use Rattle.ang_engine_modules.specs.Taken.{IsReadied, HasTaken, IsFull}
use Rattle.ang_engine_modules.proofs.PlaceLists.{set_length}
use Rattle.ang_engine_modules.proofs.Worlds.{places_length, places_put, places_push, zip_push, zip_keep}

-- ---- its name

pub added_badly : (name : List ℕ) (mask : ℕ) (w : World) (rest : List Input) → is_identifier name ≡ false → added_module name mask w rest ≡ refused BadName w rest
added_badly name mask w rest bad = ap (λ b. if b then (where_free (module_named name w) name mask w rest) else (refused BadName w rest)) bad

pub added_exists : (name : List ℕ) (mask i : ℕ) (w : World) (rest : List Input) → is_identifier name ≡ true → Some i ≡ module_named name w
    → added_module name mask w rest ≡ refused ModuleExists w rest
added_exists name mask i w rest named found =
    ap (λ b. if b then (where_free (module_named name w) name mask w rest) else (refused BadName w rest)) named ∙ ap (λ o. where_free o name mask w rest) (sym found)

pub added_free : (name : List ℕ) (mask : ℕ) (w : World) (rest : List Input) → is_identifier name ≡ true → None ≡ module_named name w
    → added_module name mask w rest ≡ in_place (empty_place w) (fresh_module name mask) w rest
added_free name mask w rest named none =
    ap (λ b. if b then (where_free (module_named name w) name mask w rest) else (refused BadName w rest)) named ∙ ap (λ o. where_free o name mask w rest) (sym none)

-- ---- its place

empty_from : (k : ℕ) (ms : List (Option Module)) (ls : List (Option LoadedModule)) → position_from is_none k ms ≡ position_from is_none k (places_of ms ls)
empty_from k [] ls = refl
empty_from k (None ∷ ms) [] = refl
empty_from k (None ∷ ms) (l ∷ ls) = refl
empty_from k (Some m ∷ ms) [] = empty_from (k + 1) ms []
empty_from k (Some m ∷ ms) (l ∷ ls) = empty_from (k + 1) ms ls

empty_same : (ms : List (Option Module)) (ls : List (Option LoadedModule)) → position is_none ms ≡ position is_none (places_of ms ls)
empty_same ms ls = position_from-zero is_none ms ∙ empty_from 0 ms ls ∙ sym (position_from-zero is_none (places_of ms ls))

is_empty : (o : Option Module) → is_none o ≡ true → o ≡ None
is_empty None e = refl
is_empty (Some m) e = absurd (cc)

get_at : {A : Type 0} (xs : List A) (i : ℕ) (d x : A) → i < length xs → slice_index_or xs i d ≡ x → slice_get xs i ≡ Some x
get_at [] i d x lt e = absurd (omega (arith, lt))
get_at (y ∷ xs) zero d x lt e = ap (λ z. Some z) e
get_at (y ∷ xs) (suc i) d x lt e = get_at xs i d x (omega (arith, lt)) e

-- the first empty place is there, and is empty
empty_there : (ms : List (Option Module)) (i : ℕ) → position is_none ms ≡ Some i → (i < length ms) × (slice_index_or ms i None ≡ None)
empty_there ms i e =
    let p = position-passes is_none ms i None e in
    (p.0, is_empty (slice_index_or ms i None) p.1)

-- the place after all others has the default
behind : {A : Type 0} (xs : List A) (d : A) (i : ℕ) → i ≡ length xs → slice_index_or (xs ++ d ∷ []) i d ≡ d
behind [] d zero e = refl
behind [] d (suc i) e = refl
behind (x ∷ xs) d zero e = absurd (omega (arith, e))
behind (x ∷ xs) d (suc i) e = behind xs d i (omega (arith, e))

pub more_at : {A : Type 0} (xs : List A) (d : A) (j : ℕ) → slice_index_or (xs ++ d ∷ []) j d ≡ slice_index_or xs j d
more_at [] d zero = refl
more_at [] d (suc j) = refl
more_at (x ∷ xs) d zero = refl
more_at (x ∷ xs) d (suc j) = more_at xs d j

past_end : {A : Type 0} (xs : List A) (d : A) (j : ℕ) → length xs ≤ j → slice_index_or xs j d ≡ d
past_end [] d j le = refl
past_end (x ∷ xs) d zero le = absurd (omega (arith, le))
past_end (x ∷ xs) d (suc j) le = past_end xs d j (omega (arith, le))

-- ---- what stands in the places after it

set_get : (xs : List (Option Module)) (i : ℕ) (m : Module) (j : ℕ) (q : Module) → slice_get (slice_set xs i (Some m)) j ≡ Some (Some q)
    → (slice_get xs j ≡ Some (Some q)) ⊎ ((j ≡ i) × (q ≡ m))
set_get [] i m j q at = inl at
set_get (x ∷ xs) zero m zero q at = let same : q ≡ m = cc in inr (refl, same)
set_get (x ∷ xs) zero m (suc j) q at = inl at
set_get (x ∷ xs) (suc i) m zero q at = inl at
set_get (x ∷ xs) (suc i) m (suc j) q at = elim (set_get xs i m j q at) [
  | inl e ↦ inl e
  | inr p ↦ inr (ap suc p.0, p.1)
]

set_none : (xs : List (Option Module)) (i : ℕ) (m : Module) (j : ℕ) → slice_get (slice_set xs i (Some m)) j ≡ Some None → slice_get xs j ≡ Some None
set_none [] i m j at = at
set_none (x ∷ xs) zero m zero at = absurd (cc)
set_none (x ∷ xs) zero m (suc j) at = at
set_none (x ∷ xs) (suc i) m zero at = at
set_none (x ∷ xs) (suc i) m (suc j) at = set_none xs i m j at

more_get : (xs : List (Option Module)) (j : ℕ) (q : Module) → slice_get (xs ++ None ∷ []) j ≡ Some (Some q) → slice_get xs j ≡ Some (Some q)
more_get [] zero q at = absurd (cc)
more_get [] (suc j) q at = absurd (cc)
more_get (x ∷ xs) zero q at = at
more_get (x ∷ xs) (suc j) q at = more_get xs j q at

more_none : (xs : List (Option Module)) (j : ℕ) → slice_get (xs ++ None ∷ []) j ≡ Some None → (slice_get xs j ≡ Some None) ⊎ (length xs ≤ j)
more_none [] j at = inr (omega arith)
more_none (x ∷ xs) zero at = inl at
more_none (x ∷ xs) (suc j) at = elim (more_none xs j at) [
  | inl e ↦ inl e
  | inr le ↦ inr (omega (arith, le))
]

-- ---- globals

lists_more : (x : Thing) (gs : List (List Slot)) → in_lists x (gs ++ [] ∷ []) ≡ in_lists x gs
lists_more x [] = refl
lists_more x (g ∷ gs) = omega (arith, lists_more x gs)

more_counted : (r : RunWorld) → IsCounted [] r → IsCounted [] (record r { globals = r.globals ++ [] ∷ [] })
more_counted r p = record { counts = record { counts = λ x. omega (arith, p.counts.counts x, lists_more x r.globals) }; ordered = p.ordered }

-- ---- a place that is ready

module _ (x y : ModuleList) (gs hs : List (List Slot)) (i : ℕ) where
  abbrev ms : List (Option Module)
  ms = x.places.items

  pub ready_within : IsReadied x gs y hs i → i < length y.places.items
  ready_within (inl e) = let p = empty_there ms i e.empty in omega (arith, p.0, ap length e.places)
  ready_within (inr e) = omega (arith, e.last, ap length e.places, length-append ms (None ∷ []))

  pub ready_few : length ms ≤ 64 → IsReadied x gs y hs i → i < 64
  ready_few few (inl e) = let p = empty_there ms i e.empty in omega (arith, p.0, few)
  ready_few few (inr e) = e.few

  -- nothing stands there
  pub ready_empty : IsReadied x gs y hs i → slice_index_or y.places.items i None ≡ None
  ready_empty (inl e) = ap (λ l. slice_index_or l i None) e.places ∙ (empty_there ms i e.empty).1
  ready_empty (inr e) = ap (λ l. slice_index_or l i None) e.places ∙ behind ms None i e.last

  -- each module in it was there
  ready_get : IsReadied x gs y hs i → (j : ℕ) (q : Module) → slice_get y.places.items j ≡ Some (Some q) → slice_get ms j ≡ Some (Some q)
  ready_get (inl e) j q at = sym (ap (λ l. slice_get l j) e.places) ∙ at
  ready_get (inr e) j q at = more_get ms j q (sym (ap (λ l. slice_get l j) e.places) ∙ at)

  ready_length : length ms ≤ 64 → IsReadied x gs y hs i → length y.places.items ≤ 64
  ready_length few (inl e) = omega (arith, few, ap length e.places)
  ready_length few (inr e) = omega (arith, e.few, e.last, ap length e.places, length-append ms (None ∷ []))

  ready_each : (P : List ℕ → ℕ → LoadedModule → Type 0) → IsReadied x gs y hs i → AllZip (IsPlaceOf P) ms x.code → AllZip (IsPlaceOf P) y.places.items y.code
  ready_each P (inl e) h = subst (λ l. AllZip (IsPlaceOf P) l y.code) (sym e.places) (subst (λ l. AllZip (IsPlaceOf P) ms l) (sym e.code) h)
  ready_each P (inr e) h =
      subst (λ l. AllZip (IsPlaceOf P) l y.code) (sym e.places)
      (subst (λ l. AllZip (IsPlaceOf P) (ms ++ None ∷ []) l) (sym e.code) (zip_push (IsPlaceOf P) ms x.code None None h tt))

  pub ready_counted : IsReadied x gs y hs i → (r : RunWorld) → IsCounted [] (record r { globals = gs }) → IsCounted [] (record r { globals = hs })
  ready_counted (inl e) r h = subst (λ l. IsCounted [] (record r { globals = l })) (sym e.globals) h
  ready_counted (inr e) r h = subst (λ l. IsCounted [] (record r { globals = l })) (sym e.globals) (more_counted (record r { globals = gs }) h)

-- of a list with the same places and the same code
pub ready_as : (x w y : ModuleList) (gs hs : List (List Slot)) (i : ℕ) → w.places.items ≡ x.places.items → w.code ≡ x.code → IsReadied x gs y hs i → IsReadied w gs y hs i
ready_as x w y gs hs i places code (inl e) =
    inl (record { empty = ap (position is_none) places ∙ e.empty; places = e.places ∙ sym places; code = e.code ∙ sym code; globals = e.globals })
ready_as x w y gs hs i places code (inr e) =
    inr (record {
      none = ap (position is_none) places ∙ e.none;
      last = e.last ∙ ap length (sym places);
      few = e.few;
      places = e.places ∙ ap (λ l. l ++ None ∷ []) (sym places);
      code = e.code ∙ ap (λ l. l ++ None ∷ []) (sym code);
      globals = e.globals;
    })

-- ---- a module that was put there

module _ (x z : ModuleList) (gs hs : List (List Slot)) (m : Module) (t : HasTaken x gs m z hs) where
  abbrev y : ModuleList
  y = t.readied

  abbrev i : ℕ
  i = t.place

  came : (j : ℕ) (q : Module) → slice_get z.places.items j ≡ Some (Some q) → (slice_get x.places.items j ≡ Some (Some q)) ⊎ ((j ≡ i) × (q ≡ m))
  came j q at = elim (set_get y.places.items i m j q (sym (ap (λ l. slice_get l j) t.places) ∙ at)) [
    | inl e ↦ inl (ready_get x y gs hs i t.ready j q e)
    | inr p ↦ inr p
  ]

  listed_one : (j : ℕ) (q : Module) → (slice_get x.places.items j ≡ Some (Some q)) ⊎ ((j ≡ i) × (q ≡ m)) → ((j : ℕ) (q : Module) → slice_get x.places.items j ≡ Some (Some q) → Contains x.order.items j)
      → Contains (x.order.items ++ i ∷ []) j
  listed_one j q (inl at) h = Contains-append_left x.order.items (i ∷ []) j (h j q at)
  listed_one j q (inr p) h = Contains-append_right x.order.items (i ∷ []) j (0, omega arith, sym p.0)

  apart_one : ((j : ℕ) (q : Module) → slice_get x.places.items j ≡ Some (Some q) → q.name ≡ m.name → ⊥)
      → ((j k : ℕ) (p q : Module) → slice_get x.places.items j ≡ Some (Some p) → slice_get x.places.items k ≡ Some (Some q) → p.name ≡ q.name → j ≡ k)
      → (j k : ℕ) (p q : Module) → (slice_get x.places.items j ≡ Some (Some p)) ⊎ ((j ≡ i) × (p ≡ m)) → (slice_get x.places.items k ≡ Some (Some q)) ⊎ ((k ≡ i) × (q ≡ m)) → p.name ≡ q.name → j ≡ k
  apart_one free h j k p q (inl a) (inl b) same = h j k p q a b same
  apart_one free h j k p q (inl a) (inr b) same = absurd (free j p a (same ∙ ap (λ (o : Module). o.name) b.1))
  apart_one free h j k p q (inr a) (inl b) same = absurd (free k q b (sym same ∙ ap (λ (o : Module). o.name) a.1))
  apart_one free h j k p q (inr a) (inr b) same = a.0 ∙ sym b.0

  module _ (P : List ℕ → ℕ → LoadedModule → Type 0) where
    -- nothing is built where nothing stands
    empty_kept : (d : Option Module) → d ≡ None → (l : Option LoadedModule) → IsPlaceOf P d l → IsPlaceOf P (Some m) l
    empty_kept d e None h = tt
    empty_kept d e (Some l) h = absurd (subst (λ o. IsPlaceOf P o (Some l)) e h)

    pub taken_modules : ((j : ℕ) (q : Module) → slice_get x.places.items j ≡ Some (Some q) → q.name ≡ m.name → ⊥) → AreModules P x → AreModules P z
    taken_modules free h = record {
      each = subst (λ l. AllZip (IsPlaceOf P) l z.code) (sym t.places)
          (subst (λ l. AllZip (IsPlaceOf P) (slice_set y.places.items i (Some m)) l) (sym t.code)
          (zip_keep (IsPlaceOf P) None y.places.items y.code i (Some m) (ready_each x y gs hs i P t.ready h.each) (λ l q. empty_kept (slice_index_or y.places.items i None) (ready_empty x y gs hs i t.ready) l q)));
      apart = λ j k p q at bt same. apart_one free h.apart j k p q (came j p at) (came k q bt) same;
      few = let n = ready_length x y gs hs i h.few t.ready in omega (arith, n, ap length t.places, set_length y.places.items i (Some m));
      listed = λ j q at. subst (λ l. Contains l j) (sym t.order) (listed_one j q (came j q at) h.listed);
    }

  count_by : IsReadied x gs y hs i → HaveGlobals x gs → length hs ≡ length z.places.items
  count_by (inl e) h = omega (arith, h.count, ap length e.globals, ap length e.places, ap length t.places, set_length y.places.items i (Some m))
  count_by (inr e) h =
      omega (arith, h.count, ap length e.globals, length-append gs ([] ∷ []), ap length e.places, length-append x.places.items (None ∷ []), ap length t.places, set_length y.places.items i (Some m))

  none_one : HaveGlobals x gs → (j : ℕ) → (slice_get x.places.items j ≡ Some None) ⊎ (length x.places.items ≤ j) → slice_index_or gs j [] ≡ []
  none_one h j (inl at) = h.none j at
  none_one h j (inr le) = past_end gs [] j (omega (arith, h.count, le))

  none_by : IsReadied x gs y hs i → HaveGlobals x gs → (j : ℕ) → slice_get y.places.items j ≡ Some None → slice_index_or hs j [] ≡ []
  none_by (inl e) h j at = ap (λ l. slice_index_or l j []) e.globals ∙ h.none j (sym (ap (λ l. slice_get l j) e.places) ∙ at)
  none_by (inr e) h j at =
      ap (λ l. slice_index_or l j []) e.globals ∙ more_at gs [] j ∙ none_one h j (more_none x.places.items j (sym (ap (λ l. slice_get l j) e.places) ∙ at))

  pub taken_globals : HaveGlobals x gs → HaveGlobals z hs
  taken_globals h = record {
    count = count_by t.ready h;
    none = λ j at. none_by t.ready h j (set_none y.places.items i m j (sym (ap (λ l. slice_get l j) t.places) ∙ at));
  }

  -- ---- the command

  module _ (r : RunWorld) (s : ModuleState) (fresh : state_of m None ≡ s) (zipped : length x.code ≡ length x.places.items)
      (empty : (j : ℕ) → slice_get x.places.items j ≡ Some None → slice_index_or x.code j None ≡ None) where
    abbrev w : World
    w = left_to (states_in x) (record r { globals = gs })

    abbrev after : List (Option ModuleState) → List (List Slot) → World
    after ps hs = left_to (record { places = ps; order = x.order.items ++ i ∷ [] }) (record r { globals = hs })

    -- nothing is built in its place
    code_none : IsReadied x gs y hs i → slice_index_or y.code i None ≡ None
    code_none (inl e) =
        let p = empty_there x.places.items i e.empty in
        ap (λ l. slice_index_or l i None) e.code ∙ empty i (get_at x.places.items i None None p.0 p.1)
    code_none (inr e) = ap (λ l. slice_index_or l i None) e.code ∙ behind x.code None i (e.last ∙ sym zipped)

    placed_there : IsReadied x gs y hs i → places_of z.places.items z.code ≡ slice_set (places_of y.places.items y.code) i (Some s)
    placed_there ready =
        ap (λ l. places_of l z.code) t.places
        ∙ ap (λ l. places_of (slice_set y.places.items i (Some m)) l) t.code
        ∙ places_put y.places.items y.code i (Some m)
        ∙ ap (λ l. slice_set (places_of y.places.items y.code) i (place_of (Some m) l)) (code_none ready)
        ∙ ap (λ q. slice_set (places_of y.places.items y.code) i (Some q)) fresh

    ends_as : (ps : List (Option ModuleState)) (ks : List (List Slot)) → places_of y.places.items y.code ≡ ps → hs ≡ ks → after (slice_set ps i (Some s)) ks ≡ left_to (states_in z) (record r { globals = hs })
    ends_as ps ks same globals =
        ap (λ l. after (slice_set ps i (Some s)) l) (sym globals)
        ∙ ap (λ l. after (slice_set l i (Some s)) hs) (sym same)
        ∙ ap (λ l. after l hs) (sym (placed_there t.ready))
        ∙ ap (λ o. left_to (record { places = places_of z.places.items z.code; order = o }) (record r { globals = hs })) (sym t.order)

    in_place_done : (rest : List Input) → IsReadied x gs y hs i → in_place (empty_place w) s w rest ≡ answered (Done None) (left_to (states_in z) (record r { globals = hs })) rest
    in_place_done rest (inl e) =
        ap (λ o. in_place o s w rest) (sym (empty_same x.places.items x.code) ∙ e.empty)
        ∙ ap (λ v. answered (Done None) v rest)
        (ends_as (places_of x.places.items x.code) gs (ap (λ l. places_of l y.code) e.places ∙ ap (λ l. places_of x.places.items l) e.code) e.globals)
    in_place_done rest (inr e) =
        let count : length (places_of x.places.items x.code) ≡ i = places_length x.places.items x.code ∙ sym e.last in
        let room : nat_le 64 (length (places_of x.places.items x.code)) ≡ false = lt-leb 64 (length (places_of x.places.items x.code)) (omega (arith, count, e.few)) in
        ap (λ o. in_place o s w rest) (sym (empty_same x.places.items x.code) ∙ e.none)
        ∙ ap (λ b. if b then (refused Limit w rest) else (answered (Done None) (with_module (length (places_of x.places.items x.code)) s (with_place w)) rest)) room
        ∙ ap (λ n. answered (Done None) (with_module n s (with_place w)) rest) count
        ∙ ap (λ v. answered (Done None) v rest)
        (ends_as (places_of x.places.items x.code ++ None ∷ []) (gs ++ [] ∷ [])
        (ap (λ l. places_of l y.code) e.places ∙ ap (λ l. places_of (x.places.items ++ None ∷ []) l) e.code ∙ places_push x.places.items x.code None None zipped) e.globals)

    pub taken_done : (rest : List Input) → in_place (empty_place w) s w rest ≡ answered (Done None) (left_to (states_in z) (record r { globals = hs })) rest
    taken_done rest = in_place_done rest t.ready

-- there is no place for it
pub full_refused : (x : ModuleList) (v : RunWorld) (s : ModuleState) (rest : List Input) → IsFull x
    → in_place (empty_place (left_to (states_in x) v)) s (left_to (states_in x) v) rest ≡ refused Limit (left_to (states_in x) v) rest
full_refused x v s rest full =
    let w : World = left_to (states_in x) v in
    let count = length (places_of x.places.items x.code) in
    let many : nat_le 64 count ≡ true = le-leb 64 count (omega (arith, full.many, places_length x.places.items x.code)) in
    ap (λ o. in_place o s w rest) (sym (empty_same x.places.items x.code) ∙ full.none)
    ∙ ap (λ b. if b then (refused Limit w rest) else (answered (Done None) (with_module count s (with_place w)) rest)) many

-- the modules are as they were
pub same_world : (x z : ModuleList) (gs hs : List (List Slot)) (r : RunWorld) → z.places.items ≡ x.places.items → z.code ≡ x.code → z.order.items ≡ x.order.items → hs ≡ gs
    → left_to (states_in z) (record r { globals = hs }) ≡ left_to (states_in x) (record r { globals = gs })
same_world x z gs hs r places code order globals =
    ap (λ l. left_to (record { places = places_of l z.code; order = z.order.items }) (record r { globals = hs })) places
    ∙ ap (λ l. left_to (record { places = places_of x.places.items l; order = z.order.items }) (record r { globals = hs })) code
    ∙ ap (λ l. left_to (record { places = places_of x.places.items x.code; order = l }) (record r { globals = hs })) order
    ∙ ap (λ l. left_to (states_in x) (record r { globals = l })) globals

pub same_globals : (x z : ModuleList) (gs hs : List (List Slot)) → z.places.items ≡ x.places.items → hs ≡ gs → HaveGlobals x gs → HaveGlobals z hs
same_globals x z gs hs places globals h = record {
  count = ap length globals ∙ h.count ∙ sym (ap length places);
  none = λ j at. ap (λ l. slice_index_or l j []) globals ∙ h.none j (sym (ap (λ l. slice_get l j) places) ∙ at);
}

-- ---- the answer

module _ (x z : ModuleList) (gs hs : List (List Slot)) (m : Module) where
  -- the module came with its name, or not
  pub taken_named : {U : Type 0} (o : Result U Refusal) → OnOk o (HasTaken x gs m z hs) → OnOk o ((one : Module) × (one.name ≡ m.name) × HasTaken x gs one z hs)
  taken_named (Ok u) taken = (m, refl, taken)
  taken_named (Err why) taken = tt

  module _ (name : List ℕ) (mask : ℕ) (r : RunWorld) (fresh : state_of m None ≡ fresh_module name mask) (named : is_identifier name ≡ true)
      (none : None ≡ module_named name (left_to (states_in x) (record r { globals = gs }))) where
    abbrev v : World
    v = left_to (states_in x) (record r { globals = gs })

    put_refused : (why : Refusal) → (why ≡ Memory) ⊎ ((why ≡ Limit) × IsFull x) → (after : World) → after ≡ v → IsRefused why (added_module name mask v) v after
    put_refused why (inl memory) after same = (inl memory, same)
    put_refused why (inr p) after same = (
      inr (λ rest.
          added_free name mask v rest named none
          ∙ full_refused x (record r { globals = gs }) (fresh_module name mask) rest p.1
          ∙ ap (λ q. refused q v rest) (sym p.0)),
      same,
    )

    pub put_done : {U : Type 0} (o : Result U Refusal) → length x.code ≡ length x.places.items → ((j : ℕ) → slice_get x.places.items j ≡ Some None → slice_index_or x.code j None ≡ None)
        → OnOk o (HasTaken x gs m z hs) → IfErr o (λ why. (why ≡ Memory) ⊎ ((why ≡ Limit) × IsFull x)) → OnErr o (z.places.items ≡ x.places.items) → OnErr o (z.code ≡ x.code)
        → OnErr o (z.order.items ≡ x.order.items) → OnErr o (hs ≡ gs) → IsDone o (added_module name mask v) v (left_to (states_in z) (record r { globals = hs }))
    put_done (Ok u) zipped empty taken limit places code order globals = λ rest.
        added_free name mask v rest named none ∙ taken_done x z gs hs m taken r (fresh_module name mask) fresh zipped empty rest
    put_done (Err why) zipped empty taken limit places code order globals =
        put_refused why limit (left_to (states_in z) (record r { globals = hs })) (same_world x z gs hs r places code order globals)

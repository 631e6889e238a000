-- The module of a name, and commands on it.
use Rattle.std.proofs.Common.{◌≡◌, ◌<◌, ◌+◌, refl, ap, sym, ◌∙◌, inl, inr, ℕ, zero, suc, Bool, true, false, cond, List, [], ◌∷◌, length, Option, Some, None, arith}
use Rattle.std.specs.Prelude.{◌≢◌, Result, Ok, Err, OnOk, IsSome, bytes_eq, position, slice_get, slice_index_or, slice_set}
use Rattle.std.specs.List.{position_from}
use Rattle.std.proofs.lemmas.Iterator.Adapters.{position_from-zero}
use Rattle.std.proofs.lemmas.Slice.Eq.{bytes_eq-Decides}
use Rattle.ang_view.proofs.Seen.{position-passes}
use Rattle.ang_meaning.specs.World.{Input, World as RunWorld}
use Rattle.ang_engine_modules.specs.declared.modules.LoadedModule.{LoadedModule}
use Rattle.ang_engine_modules.specs.declared.module.Module.{Module}
use Rattle.ang_engine_modules.specs.declared.reply.Outcome.TheVariants.{Done}
use Rattle.ang_engine_modules.specs.declared.reply.Refusal.{Refusal}
use Rattle.ang_engine_modules.specs.declared.reply.Refusal.TheVariants.{NoModule}
use Rattle.ang_engine_modules.specs.World.{ModuleState, World, has_name, module_named, module_in, module_at, left_to}
use Rattle.ang_engine_modules.specs.States.{is_named, place_of, places_of}
use Rattle.ang_engine_modules.specs.Commands.{Stepped, on_module, answered, refused, set_mask, section_added, or_limit, add_section}
use Rattle.ang_engine_modules.specs.Outcomes.{IsDone, IsAdded}
use Rattle.ang_engine_modules.specs.Sound.{IsKept}
use Rattle.ang_engine_modules.proofs.PlaceLists.{set_same}
use Rattle.ang_engine_modules.proofs.Worlds.{places_length, places_at, places_put}

-- ---- where it stands

from_same : (name : List ℕ) (k : ℕ) (ms : List (Option Module)) (ls : List (Option LoadedModule)) → position_from (is_named name) k ms ≡ position_from (has_name name) k (places_of ms ls)
from_same name k [] ls = refl
from_same name k (None ∷ ms) [] = from_same name (k + 1) ms []
from_same name k (None ∷ ms) (l ∷ ls) = from_same name (k + 1) ms ls
from_same name k (Some m ∷ ms) [] = ap (λ o. cond (bytes_eq m.name name) (Some k) o) (from_same name (k + 1) ms [])
from_same name k (Some m ∷ ms) (l ∷ ls) = ap (λ o. cond (bytes_eq m.name name) (Some k) o) (from_same name (k + 1) ms ls)

-- a module is found by its name, whatever is built
pub named_same : (name : List ℕ) (ms : List (Option Module)) (ls : List (Option LoadedModule)) → position (is_named name) ms ≡ position (has_name name) (places_of ms ls)
named_same name ms ls = position_from-zero (is_named name) ms ∙ from_same name 0 ms ls ∙ sym (position_from-zero (has_name name) (places_of ms ls))

is_there : (name : List ℕ) (o : Option Module) → is_named name o ≡ true → IsSome o
is_there name None e = absurd (cc)
is_there name (Some m) e = refl

-- where one is found there is a module
pub found_there : (name : List ℕ) (ms : List (Option Module)) (i : ℕ) → position (is_named name) ms ≡ Some i → (i < length ms) × IsSome (slice_index_or ms i None)
found_there name ms i e =
    let p = position-passes (is_named name) ms i None e in
    (p.0, is_there name (slice_index_or ms i None) p.1)

-- the same by other words
pub found_same : (o : Option ℕ) (ms ns : List (Option Module)) (ls : List (Option LoadedModule)) (name other : List ℕ) → o ≡ position (has_name name) (places_of ms ls) → ms ≡ ns → name ≡ other
    → o ≡ position (has_name other) (places_of ns ls)
found_same o ms ns ls name other found e f = found ∙ ap (λ l. position (has_name name) (places_of l ls)) e ∙ ap (λ n. position (has_name n) (places_of ns ls)) f

-- ---- no module has the name

-- none passes where none is found
not_here : {A : Type 0} (p : A → Bool) (k : ℕ) (x : A) (o : Option ℕ) (b : Bool) → p x ≡ b → cond b (Some k) o ≡ None → (p x ≡ false) × (o ≡ None)
not_here p k x o true e h = absurd (cc)
not_here p k x o false e h = (e, h)

none_from : {A : Type 0} (p : A → Bool) (k : ℕ) (xs : List A) (j : ℕ) (y : A) → position_from p k xs ≡ None → slice_get xs j ≡ Some y → p y ≡ false
none_from p k [] j y h at = absurd (cc)
none_from p k (x ∷ xs) zero y h at =
    let same : x ≡ y = cc in
    sym (ap p same) ∙ (not_here p k x (position_from p (k + 1) xs) (p x) refl h).0
none_from p k (x ∷ xs) (suc j) y h at = none_from p (k + 1) xs j y (not_here p k x (position_from p (k + 1) xs) (p x) refl h).1 at

pub none_passes : {A : Type 0} (p : A → Bool) (xs : List A) (j : ℕ) (y : A) → position p xs ≡ None → slice_get xs j ≡ Some y → p y ≡ false
none_passes p xs j y h at = none_from p 0 xs j y (sym (position_from-zero p xs) ∙ h) at

-- the name is free
pub free_name : (name : List ℕ) (ms : List (Option Module)) → position (is_named name) ms ≡ None → (j : ℕ) (m : Module) → slice_get ms j ≡ Some (Some m) → m.name ≡ name → ⊥
free_name name ms h j m at e =
    let no : bytes_eq m.name name ≡ false = none_passes (is_named name) ms j (Some m) h at in
    let yes : bytes_eq m.name name ≡ true = (bytes_eq-Decides m.name name).1 e in
    cc

pub free_on : {U E : Type 0} (o : Result U E) (name : List ℕ) (ms : List (Option Module)) → position (is_named name) ms ≡ None → OnOk o ((j : ℕ) (m : Module) → slice_get ms j ≡ Some (Some m) → m.name ≢ name)
free_on (Ok u) name ms h = free_name name ms h
free_on (Err e) name ms h = tt

-- ---- a command on it

pub on_module-none : (name : List ℕ) (w : World) (rest : List Input) (go : ℕ → ModuleState → List Input → Option Stepped)
    → None ≡ module_named name w → on_module (module_named name w) w rest go ≡ refused NoModule w rest
on_module-none name w rest go h = ap (λ o. on_module o w rest go) (sym h)

-- a command on the module of a name is one on the module of its number
pub on_module-found : (name : List ℕ) (w : World) (i : ℕ) (rest : List Input) (go : ℕ → ModuleState → List Input → Option Stepped)
    → Some i ≡ module_named name w → on_module (module_named name w) w rest go ≡ go i (module_at w i) rest
on_module-found name w i rest go found = ap (λ o. on_module o w rest go) (sym found)

-- a place that is kept, seen as a world's
place_back : (d n : Option Module) (l : Option LoadedModule) → IsKept d n → Some (module_in (place_of n l)) ≡ place_of n l
place_back None n l kept = absurd kept
place_back (Some d) None l kept = absurd kept
place_back (Some d) (Some n) l kept = refl

place_stays : (d n : Option Module) (l : Option LoadedModule) → IsKept d n → module_in (place_of n l) ≡ module_in (place_of d l) → place_of n l ≡ place_of d l
place_stays None n l kept e = absurd kept
place_stays (Some d) None l kept e = absurd kept
place_stays (Some d) (Some n) l kept e = ap (λ s. Some s) e

module _ (ms : List (Option Module)) (ls : List (Option LoadedModule)) (order : List ℕ) (r : RunWorld) where
  abbrev pub with_places : List (Option ModuleState) → World
  with_places ps = left_to (record { places = ps; order = order }) r

  abbrev pub here : World
  here = with_places (places_of ms ls)

  pub stood : (i : ℕ) (d : Option Module) → d ≡ slice_index_or ms i None → module_at here i ≡ module_in (place_of d (slice_index_or ls i None))
  stood i d at = ap module_in (places_at ms ls i) ∙ ap (λ o. module_in (place_of o (slice_index_or ls i None))) (sym at)

  -- with another mask
  pub masked : (name : List ℕ) (mask i : ℕ) (d n : Option Module) (rest : List Input) → Some i ≡ module_named name here → d ≡ slice_index_or ms i None
      → ((l : Option LoadedModule) → place_of n l ≡ Some (record (module_in (place_of d l)) { mask = mask }))
      → on_module (module_named name here) here rest (set_mask mask here) ≡ answered (Done None) (with_places (places_of (slice_set ms i n) ls)) rest
  masked name mask i d n rest found at new =
      on_module-found name here i rest (set_mask mask here) found
      ∙ ap (λ m. answered (Done None) (with_places (slice_set (places_of ms ls) i (Some (record m { mask = mask })))) rest) (stood i d at)
      ∙ ap (λ p. answered (Done None) (with_places (slice_set (places_of ms ls) i p)) rest) (sym (new (slice_index_or ls i None)))
      ∙ ap (λ ps. answered (Done None) (with_places ps) rest) (sym (places_put ms ls i n))

  -- ---- a section more

  section_stays : (i : ℕ) (d n : Option Module) → i < length ms → d ≡ slice_index_or ms i None → IsKept d n
      → module_in (place_of n (slice_index_or ls i None)) ≡ module_in (place_of d (slice_index_or ls i None)) → with_places (places_of (slice_set ms i n) ls) ≡ here
  section_stays i d n lt at kept same =
      let l = slice_index_or ls i None in
      ap with_places
      (places_put ms ls i n
      ∙ set_same (places_of ms ls) i None (place_of n l) (omega (arith, lt, places_length ms ls))
      (place_stays d n l kept same ∙ ap (λ o. place_of o l) at ∙ sym (places_at ms ls i)))

  section_refused : (U : Type 0) (why : Refusal) (name text : List ℕ) (i : ℕ) (d n : Option Module) → Some i ≡ module_named name here → i < length ms → d ≡ slice_index_or ms i None → IsKept d n
      → IsAdded {U = U} (Err why) text (module_in (place_of d (slice_index_or ls i None))) (module_in (place_of n (slice_index_or ls i None)))
      → IsDone {U = U} (Err why) (λ inputs. on_module (module_named name here) here inputs (add_section text here)) here (with_places (places_of (slice_set ms i n) ls))
  section_refused U why name text i d n found lt at kept (inl memory, same) = (inl memory, section_stays i d n lt at kept same)
  section_refused U why name text i d n found lt at kept (inr p, same) = (
    inr (λ rest.
        on_module-found name here i rest (add_section text here) found
        ∙ ap (λ m. or_limit (section_added text m) here i rest) (stood i d at)
        ∙ ap (λ o. or_limit o here i rest) p.1
        ∙ ap (λ q. refused q here rest) (sym p.0)),
    section_stays i d n lt at kept same,
  )

  -- it was added, or not
  pub section_pushed : {U : Type 0} (x : Result U Refusal) (name text : List ℕ) (i : ℕ) (d n : Option Module) → Some i ≡ module_named name here → i < length ms → d ≡ slice_index_or ms i None → IsKept d n
      → ((l : Option LoadedModule) → IsAdded x text (module_in (place_of d l)) (module_in (place_of n l)))
      → IsDone x (λ inputs. on_module (module_named name here) here inputs (add_section text here)) here (with_places (places_of (slice_set ms i n) ls))
  section_pushed (Ok u) name text i d n found lt at kept h = λ rest.
      let l = slice_index_or ls i None in
      on_module-found name here i rest (add_section text here) found
      ∙ ap (λ m. or_limit (section_added text m) here i rest) (stood i d at)
      ∙ ap (λ o. or_limit o here i rest) (h l)
      ∙ ap (λ p. answered (Done None) (with_places (slice_set (places_of ms ls) i p)) rest) (place_back d n l kept)
      ∙ ap (λ ps. answered (Done None) (with_places ps) rest) (sym (places_put ms ls i n))
  section_pushed {U} (Err why) name text i d n found lt at kept h = section_refused U why name text i d n found lt at kept (h (slice_index_or ls i None))

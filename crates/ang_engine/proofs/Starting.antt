-- A module that is loaded, and whose initializers run.
use Rattle.std.proofs.Common.{◌≡◌, ◌≢◌, ◌<◌, refl, ap, sym, ◌∙◌, subst, ℕ, zero, suc, List, [], ◌∷◌, length, arith, map, Option, Some, None}
use Rattle.std.specs.Prelude.{Result, IsSome, slice_get, slice_index_or, slice_set}
use Rattle.std.specs.List.{AllByRecursion}
use Rattle.std.proofs.lemmas.List.{get_or-set_other, nil_from_length}
use Rattle.ang_kinds.specs.declared.fault.Fault.{Fault}
use Rattle.ang_host.specs.Logs.{listed_in}
use Rattle.ang_host.specs.declared.event.Role.{Role}
use Rattle.ang_host.specs.Boxes.{members}
use Rattle.ang_host.specs.Meanings.{Meanings}
use Rattle.ang_typed.specs.Typed as t
use Rattle.ang_meaning.specs.declared.class.ValueKind.{ValueKind}
use Rattle.ang_meaning.specs.declared.class.ValueKind.TheVariants.{Number, Handle}
use Rattle.ang_meaning.specs.declared.slot.Slot.{Slot}
use Rattle.ang_meaning.specs.Environment.{default_of}
use Rattle.ang_meaning.specs.Counting.{Thing, names, how_many, IsCounted}
use Rattle.ang_meaning.specs.World.{World as RunWorld}
use Rattle.ang_meaning.specs.Told.{answers_listed}
use Rattle.ang_meaning.proofs.Counting.{bits_name_none, null_names_none}
use Rattle.ang_heap.specs.declared.globals.Globals.{Globals}
use Rattle.ang_heap.specs.declared.store.Store.{Store}
use Rattle.ang_heap.specs.Globals.{values_in}
use Rattle.ang_heap.specs.Stores.{world_of, IsReady, StoreMoves}
use Rattle.ang_heap.proofs.Hosting.{parts_none}
use Rattle.ang_engine_modules.specs.declared.modules.LoadedModule.{LoadedModule}
use Rattle.ang_engine_modules.specs.Loaded.{module_of, modules_of}
use Rattle.ang_engine_modules.specs.Modules.{Module as RunModule, unbuilt, module_at, AgreesWith, IsAskedIn}
use Rattle.ang_source.specs.Meaning.{kind_of}
use Rattle.ang_engine_modules.specs.Executed.{first_globals, initialization_of}
use Rattle.ang_engine_modules.specs.Ends.{Ends}
use Rattle.ang_engine_modules.specs.declared.module.Module.{Module}
use Rattle.ang_engine_modules.specs.declared.module.ModuleList.{ModuleList}
use Rattle.ang_engine_modules.specs.World.{Program, globals_ended}
use Rattle.ang_engine_modules.specs.Sound.{HasSameName, HaveGlobals}
use Rattle.ang_engine.specs.Step.{globals_begun}
use Rattle.ang_engine.specs.Asked.{HasRunOn}
use Rattle.ang_engine_modules.specs.States.{program_in}
use Rattle.ang_engine_modules.proofs.PlaceLists.{map_at, map_length, map_set, set_at, set_length, set_set}
use Rattle.ang_engine.proofs.GlobalsEnd.{globals_ends, ends_listed, ended_globals, begun_counted}

-- ---- first values

default_none : (x : Thing) (k : ValueKind) → names x (default_of k) ≡ 0
default_none x Number = bits_name_none 0 x
default_none x Handle = null_names_none x

defaults_none : {A : Type 0} (x : Thing) (f : A → ValueKind) (xs : List A) → how_many x (map (λ a. default_of (f a)) xs) ≡ 0
defaults_none x f [] = refl
defaults_none x f (a ∷ xs) = omega (arith, default_none x (f a), defaults_none x f xs)

pub first_none : (p : t.Program) (x : Thing) → how_many x (first_globals p) ≡ 0
first_none p x = defaults_none x (λ g. kind_of g.ty) p.globals

-- the values with which a module's globals begin name nothing
pub first_values : (ls : List (Option LoadedModule)) (home : ℕ) (values : List Slot) → values ≡ first_globals (module_at (modules_of ls) home).tree → (x : Thing) → how_many x values ≡ 0
first_values ls home values e x = ap (how_many x) e ∙ first_none (module_at (modules_of ls) home).tree x

-- what is loaded at its place
pub loaded_here : (ls : List (Option LoadedModule)) (home : ℕ) (l : LoadedModule) → home < length ls → module_at (modules_of (slice_set ls home (Some l))) home ≡ module_of (Some l)
loaded_here ls home l lt =
    map_at module_of (slice_set ls home (Some l)) home None unbuilt (omega (arith, lt, set_length ls home (Some l))) ∙ ap module_of (set_at ls home (Some l) None lt)

-- a module whose globals have ended has none
none_at : {A : Type 0} (xs : List (List A)) (i : ℕ) → slice_index_or (slice_set xs i []) i [] ≡ []
none_at [] i = refl
none_at (x ∷ xs) zero = refl
none_at (x ∷ xs) (suc i) = none_at xs i

pub none_there : (i : ℕ) (u v : RunWorld) → globals_ended i u ≡ v → slice_index_or v.globals i [] ≡ []
none_there i u v e = ap (λ (w : RunWorld). slice_index_or w.globals i []) (sym e) ∙ ap (λ gs. slice_index_or gs i []) (ended_globals i u) ∙ none_at u.globals i

-- and nobody has answered meanwhile
pub ended_silent : (i : ℕ) (u v : RunWorld) → globals_ended i u ≡ v → answers_listed u.events ≡ answers_listed v.events
ended_silent i u v e = sym (ap (λ (w : RunWorld). answers_listed w.events) (sym e) ∙ ends_listed u (globals_ended i u) (globals_ends i u))

-- ---- how many globals each module has

lengths_at : (gs : List (List Slot)) (i : ℕ) → slice_index_or (map length gs) i 0 ≡ length (slice_index_or gs i [])
lengths_at [] i = refl
lengths_at (g ∷ gs) zero = refl
lengths_at (g ∷ gs) (suc i) = lengths_at gs i

-- a place that is empty still, where a module stands in another one
record IsStillEmpty (ms : List (Option Module)) (home j : ℕ) : Type 0 where
  empty : slice_get ms j ≡ Some None
  other : j ≢ home

empty_still : (ms : List (Option Module)) (home : ℕ) (n : Option Module) (j : ℕ) → IsSome n → slice_get (slice_set ms home n) j ≡ Some None → IsStillEmpty ms home j
empty_still [] home n j some at = absurd (cc)
empty_still (m ∷ ms) zero None zero some at = absurd (cc)
empty_still (m ∷ ms) zero (Some q) zero some at = absurd (cc)
empty_still (m ∷ ms) zero n (suc j) some at = record { empty = at; other = λ e. absurd (omega (arith, e)) }
empty_still (m ∷ ms) (suc home) n zero some at = record { empty = at; other = λ e. absurd (omega (arith, e)) }
empty_still (m ∷ ms) (suc home) n (suc j) some at =
    let r = empty_still ms home n j some at in
    record { empty = r.empty; other = λ e. r.other (omega (arith, e)) }

there_still : (d n : Option Module) → HasSameName d n → IsSome n
there_still None n named = absurd named
there_still (Some d) None named = absurd named
there_still (Some d) (Some n) named = refl

-- One module has some number of globals now, and each other one as many as it had.
pub globals_kept : (x y : ModuleList) (gs hs : List (List Slot)) (home k : ℕ) (n : Option Module) → HasSameName (slice_index_or x.places.items home None) n
    → y.places.items ≡ slice_set x.places.items home n → map length hs ≡ slice_set (map length gs) home k → HaveGlobals x gs → HaveGlobals y hs
globals_kept x y gs hs home k n named places same h = record {
  count =
      omega (arith, h.count, ap length same, set_length (map length gs) home k, map_length length hs, map_length length gs, ap length places, set_length x.places.items home n);
  none = λ j at.
      let s = empty_still x.places.items home n j (there_still (slice_index_or x.places.items home None) n named) (sym (ap (λ l. slice_get l j) places) ∙ at) in
      nil_from_length (slice_index_or hs j [])
      (sym (lengths_at hs j)
      ∙ ap (λ l. slice_index_or l j 0) same
      ∙ get_or-set_other (map length gs) home j k 0 s.other
      ∙ lengths_at gs j
      ∙ ap length (h.none j s.empty));
}

-- a module that has none is given none
pub none_set : (gs : List (List Slot)) (home : ℕ) → slice_index_or gs home [] ≡ [] → map length gs ≡ slice_set (map length gs) home 0
none_set [] home e = refl
none_set (g ∷ gs) zero e = ap (λ (l : List Slot). length l ∷ map length gs) e
none_set (g ∷ gs) (suc home) e = ap (λ ns. length g ∷ ns) (none_set gs home e)

-- a list of globals was put there, and the run after it left each module as many as it had
pub put_lengths : (gs hs ks : List (List Slot)) (home : ℕ) (values : List Slot) → hs ≡ slice_set gs home values → map length ks ≡ map length hs → map length ks ≡ slice_set (map length gs) home (length values)
put_lengths gs hs ks home values put same = same ∙ ap (map length) put ∙ map_set length gs home values

-- they have ended
pub ended_lengths : (i : ℕ) (u v : RunWorld) → globals_ended i u ≡ v → map length v.globals ≡ slice_set (map length u.globals) i 0
ended_lengths i u v e = ap (λ (w : RunWorld). map length w.globals) (sym e) ∙ ap (map length) (ended_globals i u) ∙ map_set length u.globals i []

-- of two numbers in one place the second stays
pub set_again : (ns ms ks : List ℕ) (i a b : ℕ) → ms ≡ slice_set ns i a → ks ≡ slice_set ms i b → ks ≡ slice_set ns i b
set_again ns ms ks i a b first second = second ∙ ap (λ l. slice_set l i b) first ∙ set_set ns i a b

-- ---- its run

-- the world in which its globals have begun
pub begun-world : (u : RunWorld) (gs : List (List Slot)) (ls ks : List (Option LoadedModule)) (home : ℕ) (l : LoadedModule) (values : List Slot) → home < length ls
    → ks ≡ slice_set ls home (Some l) → values ≡ first_globals (module_at (modules_of ks) home).tree → gs ≡ slice_set u.globals home values
    → record u { globals = gs } ≡ globals_begun home (program_in l) u
begun-world u gs ls ks home l values lt code first set =
    ap (λ q. record u { globals = q }) set
    ∙ ap (λ (vs : List Slot). record u { globals = slice_set u.globals home vs }) (first ∙ ap (λ q. first_globals (module_at (modules_of q) home).tree) code)
    ∙ ap (λ (x : RunModule). record u { globals = slice_set u.globals home (first_globals x.tree) }) (loaded_here ls home l lt)

pub started-by : (r : Result Slot Fault) (ls ks : List (Option LoadedModule)) (home budget : ℕ) (p : Program) (u v x : RunWorld) → ls ≡ ks → v ≡ globals_begun home p u
    → Ends (initialization_of (modules_of ls) budget home) v r x → Ends (initialization_of (modules_of ks) budget home) (globals_begun home p u) r x
started-by r ls ks home budget p u v x code begun h =
    subst (λ w. Ends (initialization_of (modules_of ks) budget home) w r x) begun (subst (λ q. Ends (initialization_of (modules_of q) budget home) v r x) code h)

module _ {V : Type 0} {P : V → Type 0} (m : Meanings P) (ms : List RunModule) where
  ready_with : (s : Store V P) (gs : Globals) → IsReady m s → IsReady m (record s { globals = gs })
  ready_with s gs r = record { kept = record { drivers = r.kept.drivers; alive = r.kept.alive; none = r.kept.none; due = r.kept.due; tallied = r.kept.tallied }; room = r.room }

  -- a module's globals begin, which had none
  pub run-begun : (i : ℕ) (s : Store V P) (gs : Globals) (l : List Slot) → values_in gs ≡ slice_set (values_in s.globals) i l → ((x : Thing) → how_many x l ≡ 0)
      → slice_index_or (values_in s.globals) i [] ≡ [] → HasRunOn m ms s (record s { globals = gs })
  run-begun i s gs l e none empty = record {
    asked = λ h. h;
    moves = λ roles h. record {
      parts = parts_none m roles (members s.drivers) (listed_in s.events);
      ready = λ r. ready_with s gs r;
      heard = refl;
      limits = refl;
      within = λ r n k o a w. record { slots = w.slots; events = w.events; objects = w.objects };
      made = λ n l h. h;
    };
    ready = λ r. ready_with s gs r;
    counted = λ h. subst (λ q. IsCounted [] (record (world_of m s) { globals = q })) (sym e) (begun_counted i l (world_of m s) none empty h);
  }

  -- a run has ended
  pub run-done : (s t : Store V P) → (AllByRecursion (IsAskedIn ms) (listed_in s.events) → AllByRecursion (IsAskedIn ms) (listed_in t.events))
      → ((roles : List Role) → AgreesWith roles ms → StoreMoves m roles s t) → IsReady m t → IsCounted [] (world_of m t) → HasRunOn m ms s t
  run-done s t asked moves ready counted = record { asked = asked; moves = moves; ready = λ q. ready; counted = λ q. counted }

-- the same of modules by other words
pub run-loaded : {V : Type 0} {P : V → Type 0} (m : Meanings P) (ls ks : List (Option LoadedModule)) (s t : Store V P) → ls ≡ ks
    → (AllByRecursion (IsAskedIn (modules_of ls)) (listed_in s.events) → AllByRecursion (IsAskedIn (modules_of ls)) (listed_in t.events))
    → ((roles : List Role) → AgreesWith roles (modules_of ls) → StoreMoves m roles s t) → IsReady m t → IsCounted [] (world_of m t) → HasRunOn m (modules_of ks) s t
run-loaded m ls ks s t code asked moves ready counted = subst (λ q. HasRunOn m (modules_of q) s t) code (run-done m (modules_of ls) s t asked moves ready counted)

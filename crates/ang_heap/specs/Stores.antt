-- The world of a store, and what a piece of a run leaves of it.
use Rattle.std.specs.Prelude.{◌≡◌, ◌≤◌, ◌+◌, nat_eq, true, if◌then◌else◌, List, [], ℕ}
use Rattle.ang_host.specs.Logs.{listed_in, is_heard, log_len, log_capacity}
use Rattle.ang_host.specs.declared.event.Role.{Role}
use Rattle.ang_host.specs.Meanings.{Meanings}
use Rattle.ang_host.specs.Members.{states_of}
use Rattle.ang_host.specs.Boxes.{members}
use Rattle.ang_meaning.specs.World.{World, Bounds, Input, with_inputs}
use Rattle.ang_meaning.specs.Told.{Told}
use Rattle.ang_heap.specs.declared.limits.Limits.{Limits}
use Rattle.ang_heap.specs.declared.store.Store.{Store}
use Rattle.ang_heap.specs.Globals.{values_in}
use Rattle.ang_heap.specs.Parts.{counts_of, live_of, world_by, AreReady, PartsMove, SomeRanOut}
use Rattle.ang_heap.specs.Heaps.{objects_of, IsTallied}

-- the limits, as the world of a run knows them
abbrev pub bounds_of : Limits → Bounds
bounds_of l = record { events = l.events; slots = l.slots; objects = l.objects }

-- the world that a store is, told nothing yet
abbrev pub world_of : {V : Type 0} {P : V → Type 0} → Meanings P → Store V P → World
world_of m s =
    world_by (objects_of s.heap) (counts_of m (members s.drivers)) (values_in s.globals)
    (listed_in s.events) (log_len s.events + s.live) s.spent (bounds_of s.limits) []

-- What holds between commands too: the drivers are sound, `live` is how many host objects live,
-- `ends` is empty, with room for the end of each, and where a reference was refused some driver's
-- tally has run out.
pub record IsKept {V : Type 0} {P : V → Type 0} (m : Meanings P) (s : Store V P) : Type 0 where
  pub drivers : AreReady (states_of m (members s.drivers)) (log_len s.ends) (log_capacity s.ends)
  pub alive : s.live ≡ live_of m (members s.drivers)
  pub none : listed_in s.ends ≡ []
  pub due : s.spent ≡ true → SomeRanOut (states_of m (members s.drivers))
  pub tallied : IsTallied s.heap

-- in a run `events` has room for the end of each live host object too
pub record IsReady {V : Type 0} {P : V → Type 0} (m : Meanings P) (s : Store V P) : Type 0 where
  pub kept : IsKept m s
  pub room : log_len s.events + s.live ≤ log_capacity s.events

-- the limits allow no more than n slots of script objects, k events and o host objects
pub record AllowAtMost (n k o : ℕ) (l : Limits) : Type 0 where
  pub slots : l.slots ≤ n
  pub events : l.events ≤ k
  pub objects : l.objects ≤ o

-- Script objects take no more than n slots, the events and the ends that are owed are no more than
-- k, and no more than o host objects live.
pub record IsWithin {V : Type 0} {P : V → Type 0} (n k o : ℕ) (s : Store V P) : Type 0 where
  pub slots : s.heap.slots ≤ n
  pub events : log_len s.events + s.live ≤ k
  pub objects : s.live ≤ o

-- how many slots of script objects the command has made while so many ticks were left
abbrev pub made_while : {V : Type 0} {P : V → Type 0} → ℕ → Store V P → ℕ
made_while ticks s = if nat_eq s.made_at ticks then s.made else 0

-- While so many ticks were left an object of so many fields was made. It was counted among what was
-- made while as many were left, and all of that is no more than the limit.
pub record HasMade {V : Type 0} {P : V → Type 0} (ticks fields : ℕ) (s t : Store V P) : Type 0 where
  pub counted : made_while ticks t ≡ made_while ticks s + (1 + fields)
  pub few : made_while ticks t ≤ s.limits.slots

-- A piece of a run: the drivers follow what it listed and keep their places, and all is ready again.
-- Whether its events can be read stays, and the limits stay, and so does each bound that is no lower
-- than these; what one tick made is bounded by the slots that may be held.
pub record StoreMoves {V : Type 0} {P : V → Type 0} (m : Meanings P) (roles : List Role)
    (s t : Store V P) : Type 0 where
  pub parts :
      PartsMove m roles (members s.drivers) (listed_in s.events) (members t.drivers)
      (listed_in t.events)
  pub ready : IsReady m s → IsReady m t
  pub heard : is_heard t.events ≡ is_heard s.events
  pub limits : t.limits ≡ s.limits
  pub within : IsReady m s → (n k o : ℕ) → AllowAtMost n k o s.limits → IsWithin n k o s
      → IsWithin n k o t
  pub made : (n : ℕ) → s.limits.slots ≤ n → s.made ≤ n → t.made ≤ n

-- the same, whatever roles entities have
abbrev pub HasMoved : {V : Type 0} {P : V → Type 0} → Meanings P → Store V P → Store V P → Type 0
HasMoved m s t = (roles : List Role) → StoreMoves m roles s t

-- What is done to the first store's world, told these inputs and any more, is what is done to the
-- second's, told the rest.
abbrev pub StoreTold : {V : Type 0} {P : V → Type 0} {A : Type 0} → Meanings P
    → (World → A) → Store V P → (World → A) → Store V P → Type 0
StoreTold m before s after t =
    Told (λ is. before (with_inputs is (world_of m s)))
    (λ is. after (with_inputs is (world_of m t)))

-- what is done to the first store's world makes it the second's, whatever it is told
abbrev pub StoreBecomes : {V : Type 0} {P : V → Type 0} → Meanings P → (World → World)
    → Store V P → Store V P → Type 0
StoreBecomes m act s t =
    (is : List Input) → act (with_inputs is (world_of m s)) ≡ with_inputs is (world_of m t)

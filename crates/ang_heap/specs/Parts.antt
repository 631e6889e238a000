-- The parts of a store, as contracts see them.
use Rattle.std.specs.Prelude.{ℕ, ◌+◌, ◌-◌, ◌^◌, ◌≡◌, ◌<◌, ◌≤◌, Bool, true, false, List, [], ◌∷◌, ◌++◌, Some, None, length}
use Rattle.std.specs.FinMap as map
use Rattle.std.specs.declared.alloc.Global.{Global}
use Rattle.std.specs.declared.dyn_box.DynBox.{DynBox}
use Rattle.ang_host.specs.declared.event.HostEvent.{HostEvent}
use Rattle.ang_host.specs.declared.event.Role.{Role}
use Rattle.ang_host.specs.State.{State}
use Rattle.ang_host.specs.Laws.{IsFull, IsSound}
use Rattle.ang_host.specs.Meanings.{Meanings}
use Rattle.ang_host.specs.Members.{state_at, states_of}
use Rattle.ang_host.specs.declared.drivers.Drivers.{Drivers}
use Rattle.ang_host.specs.Boxes.{members}
use Rattle.ang_host.specs.Events.{DriversFollow, HasRunOut}
use Rattle.ang_meaning.specs.declared.slot.Slot.{Slot}
use Rattle.ang_meaning.specs.declared.slot.Slot.TheVariants.{Bits, Script, Host}
use Rattle.ang_meaning.specs.World.{World, Bounds, ScriptObjects, HostCounts, Input}
use Rattle.ang_meaning.specs.Counting.{counts_by, count_of_object}

-- by driver, the count of each live key
abbrev pub counts_of : {V : Type 0} {P : V → Type 0} → Meanings P → List (DynBox V Global P)
    → HostCounts
counts_of m bs = counts_by (states_of m bs)

abbrev pub world_by :
    ScriptObjects → HostCounts → List (List Slot) → List HostEvent → ℕ → Bool → Bounds
    → List Input → World
world_by os hs gs es n sp b is =
    record {
      objects = os;
      hosts = hs;
      globals = gs;
      events = es;
      reserved = n;
      spent = sp;
      bounds = b;
      inputs = is;
    }

-- how many host objects live
abbrev pub live_in : List State → ℕ
live_in [] = 0
live_in (s ∷ ss) = map.len s.counts + live_in ss

abbrev pub live_of : {V : Type 0} {P : V → Type 0} → Meanings P → List (DynBox V Global P) → ℕ
live_of m bs = live_in (states_of m bs)

-- the same of a list of drivers: their states, the counts of their live keys, and how many those
-- are
abbrev pub states_among : {V : Type 0} {P : V → Type 0} → Meanings P → Drivers V P → List State
states_among m ds = states_of m (members ds)

abbrev pub counts_among : {V : Type 0} {P : V → Type 0} → Meanings P → Drivers V P → HostCounts
counts_among m ds = counts_of m (members ds)

abbrev pub live_among : {V : Type 0} {P : V → Type 0} → Meanings P → Drivers V P → ℕ
live_among m ds = live_of m (members ds)

-- the drivers' states are sound, and a list of events has room for the end of each live object
pub record AreReady (ss : List State) (len capacity : ℕ) : Type 0 where
  pub sound : (i : ℕ) → i < length ss → IsSound (state_at ss i)
  pub room : len + live_in ss ≤ capacity

-- why one place more was refused: the tallies of the object's driver, or the script object's count,
-- have run out
abbrev pub IsTallyFull : Slot → ScriptObjects → List State → Type 0
IsTallyFull (Bits n) os ss = ⊥
IsTallyFull (Script None) os ss = ⊥
IsTallyFull (Script (Some n)) os ss = 2 ^ 64 - 1 ≤ count_of_object (map.get os n)
IsTallyFull (Host d None) os ss = ⊥
IsTallyFull (Host d (Some k)) os ss = IsFull (state_at ss d)

-- what is noted where one place more is granted or refused: that a driver refused it
abbrev pub noted : Slot → Bool → Bool → Bool
noted (Bits n) b sp = sp
noted (Script k) b sp = sp
noted (Host d None) b sp = sp
noted (Host d (Some k)) true sp = sp
noted (Host d (Some k)) false sp = true

-- a tally of some driver has run out
abbrev pub SomeRanOut : List State → Type 0
SomeRanOut ss = (i : ℕ) × (i < length ss) × HasRunOut (state_at ss i).tally

-- the drivers follow what was listed
pub record PartsMove {V : Type 0} {P : V → Type 0} (m : Meanings P) (roles : List Role)
    (xs : List (DynBox V Global P)) (es : List HostEvent)
    (ys : List (DynBox V Global P)) (fs : List HostEvent) : Type 0 where
  pub more : List HostEvent
  pub events : fs ≡ es ++ more
  pub follow : DriversFollow m roles xs more ys

-- What a host's limits mean (docs/HOST.md, "Limits").
use Rattle.std.specs.Prelude.{ℕ, ◌≡◌, ◌≤◌, ◌-◌, ◌^◌, max, All, List, [], ◌∷◌, length}
use Rattle.ang_host.specs.declared.event.HostEvent.{HostEvent}
use Rattle.ang_host.specs.Boxes.{members}
use Rattle.ang_host.specs.Meanings.{Meanings}
use Rattle.ang_heap.specs.declared.limits.Limits.{Limits}
use Rattle.ang_heap.specs.declared.limits.Held.{Held}
use Rattle.ang_heap.specs.declared.store.Store.{Store}
use Rattle.ang_heap.specs.Heaps.{objects_of}
use Rattle.ang_heap.specs.Parts.{live_of}
use Rattle.ang_meaning.specs.Slots.{slots_of}

-- what an engine begins with: as much as there are numbers for
abbrev pub no_limits : Limits
no_limits = record { events = 2 ^ 64 - 1; slots = 2 ^ 64 - 1; objects = 2 ^ 64 - 1 }

-- the slots of all script objects, and the host objects that live
abbrev pub held_of : {V : Type 0} {P : V → Type 0} → Meanings P → Store V P → Held
held_of m s = record { slots = slots_of (objects_of s.heap); objects = live_of m (members s.drivers) }

-- A command under limits lists no more events than the limit, or than host objects lived before it;
-- and no more is held after it than the limit, or than before.
pub record IsLimited (l : Limits) (before : Held) (events : List HostEvent) (after : Held) : Type 0 where
  pub few_events : length events ≤ max l.events before.objects
  pub few_slots : after.slots ≤ max l.slots before.slots
  pub few_objects : after.objects ≤ max l.objects before.objects

-- a command that lists these events keeps to the limits, and they stay
pub record StaysWithin {V : Type 0} {P : V → Type 0} (m : Meanings P) (s : Store V P)
    (events : List HostEvent) (t : Store V P) : Type 0 where
  pub limits : t.limits ≡ s.limits
  pub limited : IsLimited s.limits (held_of m s) events (held_of m t)

-- ---- lists of commands

-- what a command lists, and what is held after it
abbrev pub Listing : Type 0
Listing = List HostEvent × Held

-- Commands in turn, under limits that are never changed; each begins with what is held after the
-- one before it.
abbrev pub AreLimited : Limits → Held → List Listing → Type 0
AreLimited l before [] = Unit
AreLimited l before (c ∷ cs) = IsLimited l before c.0 c.1 × AreLimited l c.1 cs

-- A command of such a list, which begins with so much: it lists no more events than the limit, or
-- than host objects may live, or lived at the beginning; and no more is held after it than the
-- limit, or than at the beginning.
pub record IsBounded (l : Limits) (first : Held) (c : Listing) : Type 0 where
  pub few_events : length c.0 ≤ max l.events (max l.objects first.objects)
  pub few_slots : c.1.slots ≤ max l.slots first.slots
  pub few_objects : c.1.objects ≤ max l.objects first.objects

-- so it is with each command of each list
abbrev pub LimitsHold : Type 0
LimitsHold =
    (l : Limits) (first : Held) (cs : List Listing) → AreLimited l first cs → All (IsBounded l first) cs

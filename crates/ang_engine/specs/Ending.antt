-- What is listed where globals end.
use Rattle.std.specs.Prelude.{◌≡◌, ℕ, List, ◌++◌, map as list_map}
use Rattle.ang_host.specs.declared.event.HostEvent.{HostEvent}
use Rattle.ang_host.specs.declared.event.HostEvent.TheVariants.{Ended}
use Rattle.ang_meaning.specs.declared.slot.Slot.{Slot}
use Rattle.ang_meaning.specs.World.{World as RunWorld, give}
use Rattle.ang_engine_modules.specs.World.{World, engine_ended}

-- the ends of these objects, each a driver and a key
abbrev pub ends_of : List (ℕ × ℕ) → List HostEvent
ends_of ks = list_map (λ k. Ended k.0 k.1) ks

-- Where a value is given up, ends of objects are listed, and nothing else.
abbrev pub GivingListsEnds : Type 0
GivingListsEnds =
    (v : Slot) (w : RunWorld) → (ks : List (ℕ × ℕ)) × ((give v w).events ≡ w.events ++ ends_of ks)

-- So it is where an engine ends: no driver is asked anything.
abbrev pub EndingListsEnds : Type 0
EndingListsEnds = (w : World) → (ks : List (ℕ × ℕ)) × ((engine_ended w).events ≡ ends_of ks)

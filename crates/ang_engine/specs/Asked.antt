-- What a command, or a piece of it, asks the drivers.
use Rattle.std.specs.Prelude.{List, [], All}
use Rattle.std.specs.List.{AllByRecursion}
use Rattle.ang_host.specs.Logs.{listed_in}
use Rattle.ang_host.specs.declared.event.HostEvent.{HostEvent}
use Rattle.ang_host.specs.declared.event.Role.{Role}
use Rattle.ang_host.specs.Boxes.{members}
use Rattle.ang_host.specs.Meanings.{Meanings}
use Rattle.ang_host.specs.Events.{DriversFollow}
use Rattle.ang_view.specs.Registration.{RegistrationList}
use Rattle.ang_engine.specs.Roles.{AreRoles}
use Rattle.ang_meaning.specs.Counting.{IsCounted}
use Rattle.ang_heap.specs.declared.store.Store.{Store}
use Rattle.ang_heap.specs.Stores.{world_of, IsKept, IsReady, StoreMoves}
use Rattle.ang_engine_modules.specs.Modules.{Module, AgreesWith, IsAskedIn}
use Rattle.ang_engine_modules.specs.World.{World}
use Rattle.ang_engine.specs.Limited.{StaysWithin}
use Rattle.ang_engine.specs.Step.{IsEntitled}

-- A piece of a command, in which these modules may run, has asked what they see; the drivers follow
-- it; all can be given up again, and nothing is held but by globals and fields.
pub record HasRunOn {V : Type 0} {P : V → Type 0} (m : Meanings P) (ms : List Module)
    (s t : Store V P) : Type 0 where
  pub asked :
      AllByRecursion (IsAskedIn ms) (listed_in s.events) → AllByRecursion (IsAskedIn ms) (listed_in t.events)
  pub moves : (roles : List Role) → AgreesWith roles ms → StoreMoves m roles s t
  pub ready : IsReady m s → IsReady m t
  pub counted : IsCounted [] (world_of m s) → IsCounted [] (world_of m t)

-- With these modules after it, the command's host calls are entitled; the drivers follow its
-- events; it keeps to the limits; and what holds between commands holds again.
pub record HasAsked {V : Type 0} {P : V → Type 0} (m : Meanings P) (R : RegistrationList)
    (after : World) (events : List HostEvent) (s t : Store V P) : Type 0 where
  pub entitled : All (IsEntitled R after) events
  pub follow : (roles : List Role) → AreRoles roles R
      → DriversFollow m roles (members s.drivers) events (members t.drivers)
  pub within : StaysWithin m s events t
  pub kept : IsKept m t
  pub counted : IsCounted [] (world_of m t)

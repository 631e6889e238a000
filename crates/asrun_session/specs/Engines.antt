-- What is done with an engine that stands: from the engine e to the engine f, where m is the
-- meaning of what is behind each vtable.
use Rattle.std.specs.Prelude.{◌≡◌, ℕ, Bool, List, Option}
use Rattle.ang_host.specs.Meanings.{Meanings}
use Rattle.ang_host.specs.declared.event.HostEvent.{HostEvent}
use Rattle.ang_engine.specs.declared.engine.Engine.{Engine}
use Rattle.ang_engine.specs.Engines.{list_in, registrations, world_in, drivers_in, builds_in, last_build}
use Rattle.ang_engine.specs.Limited.{StaysWithin}
use Rattle.ang_engine_modules.specs.World.{World}
use Rattle.asrun_session.specs.Deeds.{Deed, list_behind, deed_events, MovesBuilds, IsPrinted, IsHalfPrinted, IsDone, IsCut}
use Rattle.asrun_session.specs.Drivers.{ByEvents}
use Rattle.asrun_session.specs.Session.{Session}
use Rattle.asrun_session.specs.Whole.{RunsSession, StopsSession}
use Rattle.asrun_session.specs.declared.action.Action.{Action}
use Rattle.asrun_session.specs.declared.ending.Status.{Status}

module _ {V : Type 0} {P : V → Type 0} (m : Meanings P) (e f : Engine V P) where
  -- By some events, which its drivers follow, it comes to another world, as S says.
  abbrev pub Comes : (List HostEvent → World → Type 0) → Type 0
  Comes S = ByEvents m (registrations e) (drivers_in e) (λ es. S es (world_in m f)) (drivers_in f)

  -- what a deed does to the engine's numbers of builds
  abbrev pub Builds : Deed → Type 0
  Builds d = MovesBuilds (world_in m e) d (last_build e) (builds_in e) (last_build f) (builds_in f)

  -- One action is done, under the limits that hold and stay, and its text is printed.
  pub record Prints (a : Action) (old new : Option (List ℕ)) (ok : Bool) : Type 0 where
    pub done : IsPrinted m (list_in e) (world_in m e) (drivers_in e) a old new ok
        (world_in m f) (drivers_in f)
    pub list : list_in f ≡ list_behind (list_in e) (world_in m e) done.deed
    pub within : StaysWithin m e.machine.store (deed_events done.deed) f.machine.store
    pub builds : Builds done.deed

  -- One action is done so, and a front of its text is printed.
  pub record HalfPrints (a : Action) (old new : Option (List ℕ)) : Type 0 where
    pub done : IsHalfPrinted m (list_in e) (world_in m e) (drivers_in e) a old new
        (world_in m f) (drivers_in f)
    pub list : list_in f ≡ list_behind (list_in e) (world_in m e) done.deed
    pub within : StaysWithin m e.machine.store (deed_events done.deed) f.machine.store
    pub builds : Builds done.deed

  -- the lines of a session are done
  abbrev pub RunsLines : Session → Option (List ℕ) → Option (List ℕ) → Status → Type 0
  RunsLines session old new status =
      Comes (IsDone (list_in e) (world_in m e) session old new status)

  -- some of them are
  abbrev pub StopsLines : Session → Option (List ℕ) → Option (List ℕ) → Type 0
  StopsLines session old new = Comes (IsCut (list_in e) (world_in m e) session old new)

  -- the text of a session is done
  abbrev pub RunsText : List ℕ → ℕ → Option (List ℕ) → Option (List ℕ) → Status → Type 0
  RunsText text budget old new status =
      Comes (RunsSession (list_in e) (world_in m e) text budget old new status)

  -- some of it is
  abbrev pub StopsText : List ℕ → ℕ → Option (List ℕ) → Option (List ℕ) → Type 0
  StopsText text budget old new =
      Comes (StopsSession (list_in e) (world_in m e) text budget old new)

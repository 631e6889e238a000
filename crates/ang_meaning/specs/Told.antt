-- What a piece of a run does, told by the inputs that it takes.
use Rattle.std.specs.Prelude.{◌≡◌, ◌⊎◌, Bool, true, false, List, [], ◌∷◌, ◌++◌, Option, Some, None}
use Rattle.ang_kinds.specs.declared.fault.Fault.{Fault}
use Rattle.ang_kinds.specs.declared.fault.Fault.TheVariants.{Memory, Tally}
use Rattle.ang_host.specs.declared.answer.HostReply.{HostReply}
use Rattle.ang_host.specs.declared.event.HostEvent.{HostEvent}
use Rattle.ang_host.specs.declared.event.HostEvent.TheVariants.{Called, Ended}
use Rattle.ang_meaning.specs.World.{World, Input, Room, Said, Tallied}

-- The first, told these inputs and any more, gives what the second gives, told the rest. Where the second hands its inputs on untouched, these are
-- exactly the inputs that the first asks for.
pub record Told {A : Type 0} (before after : List Input → A) : Type 0 where
  pub used : List Input
  pub tells : (rest : List Input) → before (used ++ rest) ≡ after rest

-- Of the inputs that a whole run used: there was memory and room in every tally each time. (A run that runs out of inputs goes on as if it were refused,
-- so these two are said of used inputs alone.)
abbrev pub has_room : List Input → Bool
has_room [] = true
has_room (Room false ∷ inputs) = false
has_room (Tallied false ∷ inputs) = false
has_room (i ∷ inputs) = has_room inputs

-- it was refused at the last of them, and never before: the fault of that refusal
abbrev pub stopped_by : List Input → Option Fault
stopped_by [] = None
stopped_by (Room false ∷ []) = Some Memory
stopped_by (Room false ∷ i ∷ inputs) = None
stopped_by (Tallied false ∷ []) = Some Tally
stopped_by (Tallied false ∷ i ∷ inputs) = None
stopped_by (i ∷ inputs) = stopped_by inputs

-- what drivers answered, as a run was told, and as its events list it
abbrev pub answers_told : List Input → List HostReply
answers_told [] = []
answers_told (Said reply ∷ inputs) = reply ∷ answers_told inputs
answers_told (i ∷ inputs) = answers_told inputs

abbrev pub answers_listed : List HostEvent → List HostReply
answers_listed [] = []
answers_listed (Called caller entity driver object args reply ∷ events) = reply ∷ answers_listed events
answers_listed (Ended driver key ∷ events) = answers_listed events

-- A piece of a run takes one world to the other: it was told these inputs, the first that there were, and listed events after those before, in which
-- the answers are just those that it was told.
pub record Moves (before : World) (used : List Input) (after : World) : Type 0 where
  pub more : List HostEvent
  pub inputs : before.inputs ≡ used ++ after.inputs
  pub events : after.events ≡ before.events ++ more
  pub answers : answers_listed more ≡ answers_told used

-- it goes on, or has ended with a value: nothing was refused
pub record GoesOn (before after : World) : Type 0 where
  pub used : List Input
  pub moves : Moves before used after
  pub room : has_room used ≡ true

-- it has ended with a fault: nothing was refused, or the last input alone, whose fault this is
pub record Faults (f : Fault) (before after : World) : Type 0 where
  pub used : List Input
  pub moves : Moves before used after
  pub told : (has_room used ≡ true) ⊎ (stopped_by used ≡ Some f)

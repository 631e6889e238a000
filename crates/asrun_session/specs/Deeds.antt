-- What a session did (docs/HOST.md, "The program").
use Rattle.std.specs.Prelude.{◌≡◌, ◌≤◌, ◌-◌, ℕ, Bool, true, false, List, [], ◌∷◌, ◌++◌, length, take, map, flat_map, Option, Some, None, codes, decimal, if◌then◌else◌}
use Rattle.std.specs.List.{list_all}
use Rattle.std.specs.Io.KnownBytes.{Appends}
use Rattle.std.specs.declared.alloc.Global.{Global}
use Rattle.std.specs.declared.dyn_box.DynBox.{DynBox}
use Rattle.ang_host.specs.Events.{DriversFollow}
use Rattle.ang_host.specs.Meanings.{Meanings}
use Rattle.ang_host.specs.declared.event.HostEvent.{HostEvent}
use Rattle.ang_host.specs.declared.event.Role.{Role}
use Rattle.ang_view.specs.Groups.{Grouped}
use Rattle.ang_engine.specs.Roles.{AreRoles}
use Rattle.ang_engine_modules.specs.declared.command.Command.{Command}
use Rattle.ang_engine_modules.specs.declared.reply.Outcome.{Outcome}
use Rattle.ang_engine_modules.specs.declared.reply.Outcome.TheVariants.{Done, Failed, Refused}
use Rattle.ang_engine_modules.specs.declared.reply.Reply.{Reply}
use Rattle.ang_engine.specs.Prepared.{HaveMoved, replaced}
use Rattle.ang_engine.specs.Step.{Takes, Runs, list_after}
use Rattle.ang_engine_modules.specs.World.{World}
use Rattle.asrun_session.specs.Session.{Session}
use Rattle.asrun_text.specs.Text.{newline, reply_text}
use Rattle.asrun_session.specs.Writing.{HasFront}
use Rattle.asrun_session.specs.declared.action.Action.{Action}
use Rattle.asrun_session.specs.declared.action.Action.TheVariants as action
use Rattle.asrun_session.specs.declared.ending.Status.{Status}
use Rattle.asrun_session.specs.declared.ending.Status.TheVariants.{AllOk, SomeRefused, BadInput}

-- a command that ran, with its reply, or a budget that was set
pub data Deed : Type 0 where
  Ran : Command → Reply → Deed
  Set : ℕ → Deed

abbrev pub action_of : Deed → Action
action_of (Ran c r) = action.Command c
action_of (Set ticks) = action.Budget ticks

abbrev pub command_in : Deed → List Command
command_in (Ran c r) = c ∷ []
command_in (Set ticks) = []

abbrev pub reply_in : Deed → List Reply
reply_in (Ran c r) = r ∷ []
reply_in (Set ticks) = []

abbrev pub commands_in : List Deed → List Command
commands_in = flat_map command_in

abbrev pub replies_in : List Deed → List Reply
replies_in = flat_map reply_in

-- what the drivers were asked
abbrev pub deed_events : Deed → List HostEvent
deed_events (Ran c r) = r.events
deed_events (Set ticks) = []

abbrev pub events_in : List Deed → List HostEvent
events_in = flat_map deed_events

-- what is printed: the text of the reply, or `ok`
abbrev pub deed_text : Deed → List ℕ
deed_text (Ran c r) = reply_text r
deed_text (Set ticks) = codes "ok" ++ newline

abbrev pub text_in : List Deed → List ℕ
text_in = flat_map deed_text

abbrev pub is_done : Outcome → Bool
is_done (Done v) = true
is_done (Failed f) = false
is_done (Refused r) = false

abbrev pub is_ok : Deed → Bool
is_ok (Ran c r) = is_done r.outcome
is_ok (Set ticks) = true

-- `line N BadLine`, where a line ends the session
abbrev pub bad_line_text : Option ℕ → List ℕ
bad_line_text None = []
bad_line_text (Some n) = codes "line " ++ decimal n ++ codes " BadLine\n"

abbrev pub status_of : Option ℕ → List Deed → Status
status_of (Some n) deeds = BadInput
status_of None deeds = if list_all is_ok deeds then AllOk else SomeRefused

-- one deed, over the list and the engine's modules
abbrev pub Does : Grouped → World → Deed → World → Type 0
Does R w (Ran c r) after = Takes R w c r after
Does R w (Set ticks) after = w ≡ after

-- the list after it
abbrev pub list_behind : Grouped → World → Deed → Grouped
list_behind R w (Ran c r) = list_after R w c
list_behind R w (Set ticks) = R

-- What a deed does to the numbers of builds, of n builds that had begun before and k after it: a command
-- ends what was looked up in the module that it replaces, and nothing else (`HaveMoved` of ang_engine).
abbrev pub MovesBuilds : World → Deed → ℕ → (ℕ → Option ℕ) → ℕ → (ℕ → Option ℕ) → Type 0
MovesBuilds w (Ran c r) n before k after = HaveMoved (replaced c r.outcome w) n before k after
MovesBuilds w (Set ticks) n before k after = (k ≡ n) × (after ≡ before)

-- The session was done whole: its commands ran in their order, each with its reply, these are the
-- events of all replies, and the text of all was printed.
pub record IsDone (R : Grouped) (w : World) (session : Session) (old new : Option (List ℕ))
    (status : Status) (es : List HostEvent) (after : World) : Type 0 where
  pub deeds : List Deed
  pub actions : session.actions ≡ map action_of deeds
  pub replies : Runs R w (commands_in deeds) (replies_in deeds) after
  pub events : es ≡ events_in deeds
  pub printed : Appends old new (text_in deeds ++ bad_line_text session.bad_line)
  pub ending : status ≡ status_of session.bad_line deeds

-- all deeds but the last one
abbrev pub but_last : List Deed → List Deed
but_last ds = take (length ds - 1) ds

-- a line of another form is told where no action is left
abbrev pub told_behind : List Action → Option ℕ → List ℕ
told_behind [] bad_line = bad_line_text bad_line
told_behind (a ∷ left) bad_line = []

-- The session was cut short: its first commands ran, these are the events of their replies, and a
-- front of their text was printed, in which each reply but the last one stands whole.
pub record IsCut (R : Grouped) (w : World) (session : Session) (old new : Option (List ℕ))
    (es : List HostEvent) (after : World) : Type 0 where
  pub deeds : List Deed
  pub left : List Action
  pub actions : session.actions ≡ map action_of deeds ++ left
  pub replies : Runs R w (commands_in deeds) (replies_in deeds) after
  pub events : es ≡ events_in deeds
  pub printed : HasFront old new (text_in deeds ++ told_behind left session.bad_line)
  pub whole : length (text_in (but_last deeds)) ≤ printed.count

-- one action was done, the drivers followed its events, and its text was printed
pub record IsPrinted {V : Type 0} {P : V → Type 0} (m : Meanings P) (R : Grouped)
    (w : World) (xs : List (DynBox V Global P)) (a : Action) (old new : Option (List ℕ)) (ok : Bool)
    (after : World) (ys : List (DynBox V Global P)) : Type 0 where
  pub deed : Deed
  pub action : action_of deed ≡ a
  pub does : Does R w deed after
  pub follow : (roles : List Role) → AreRoles roles R.entries
      → DriversFollow m roles xs (deed_events deed) ys
  pub printed : Appends old new (deed_text deed)
  pub ended : ok ≡ is_ok deed

-- one action was done, the drivers followed its events, and a front of its text was printed
pub record IsHalfPrinted {V : Type 0} {P : V → Type 0} (m : Meanings P) (R : Grouped)
    (w : World) (xs : List (DynBox V Global P)) (a : Action) (old new : Option (List ℕ))
    (after : World) (ys : List (DynBox V Global P)) : Type 0 where
  pub deed : Deed
  pub action : action_of deed ≡ a
  pub does : Does R w deed after
  pub follow : (roles : List Role) → AreRoles roles R.entries
      → DriversFollow m roles xs (deed_events deed) ys
  pub front : HasFront old new (deed_text deed)

-- What a run over a profile and a session prints, and how it ends (docs/HOST.md, "The
-- program").
use Rattle.std.specs.Prelude.{◌≡◌, ℕ, ◌<◌, ◌≤◌, ◌⊎◌, nat_lt, List, [], ◌++◌, length, Option, Result, Ok, Err, codes, decimal, Bool, true, false, if◌then◌else◌}
use Rattle.std.specs.Io.KnownBytes.{Appends}
use Rattle.std.specs.declared.alloc.Global.{Global}
use Rattle.std.specs.declared.dyn_box.DynBox.{DynBox}
use Rattle.ang_host.specs.Meanings.{Meanings}
use Rattle.ang_host.specs.declared.event.HostEvent.{HostEvent}
use Rattle.ang_registry.specs.declared.error.RegError.{RegError}
use Rattle.ang_registry.specs.declared.error.RegError.TheVariants.{Limit, EmptyMask, BadDeclaration, UnknownType, WrongDriver, Duplicate, Memory as NoMemory}
use Rattle.ang_registry.specs.Registrations.{Registrations}
use Rattle.ang_registry.specs.Groups.{all_ended}
use Rattle.ang_view.specs.Groups.{Grouped}
use Rattle.ang_view.specs.Registration.{RegistrationList}
use Rattle.ang_meaning.specs.World.{Bounds}
use Rattle.ang_heap.specs.Stores.{bounds_of}
use Rattle.ang_heap.specs.declared.limits.Limits.{Limits}
use Rattle.ang_engine.specs.Limited.{no_limits}
use Rattle.ang_engine_modules.specs.World.{World, no_modules, bounded_by}
use Rattle.asrun_session.specs.Deeds.{IsDone, IsCut}
use Rattle.asrun_session.specs.Drivers.{EngineRefusal, IsRefused, engine_text, WasDiscarded, DidNothing}
use Rattle.asrun_lines.specs.Lines.{lines_of}
use Rattle.asrun_session.specs.Limits.{limits_of}
use Rattle.asrun_session.specs.Profile.{loaded}
use Rattle.asrun_session.specs.Session.{session_from}
use Rattle.asrun_session.specs.Writing.{HasFront}
use Rattle.asrun_session.specs.declared.ending.IoFault.{IoFault}
use Rattle.asrun_session.specs.declared.ending.IoFault.TheVariants as io
use Rattle.asrun_session.specs.declared.ending.Status.{Status}
use Rattle.asrun_session.specs.declared.ending.Status.TheVariants.{BadInput, Memory}
use Rattle.asrun_session.specs.declared.ending.SessionError.{SessionError}
use Rattle.asrun_session.specs.declared.ending.SessionError.TheVariants as stop
use Rattle.asrun_session.specs.declared.profile.ProfileFault.{ProfileFault}
use Rattle.asrun_session.specs.declared.profile.ProfileFault.TheVariants.{BadLine, Refused, GroupRefused, NotVoid}
use Rattle.ang_registry.specs.declared.error.GroupError.{GroupError}
use Rattle.ang_registry.specs.declared.error.GroupError.TheVariants as group

-- the most bytes of a profile and of a session
abbrev pub most_profile : ℕ
most_profile = 1048576

abbrev pub most_session : ℕ
most_session = 16777216

unfoldable pub why_text : RegError → List ℕ
why_text Limit = codes "Limit"
why_text EmptyMask = codes "EmptyMask"
why_text BadDeclaration = codes "BadDeclaration"
why_text UnknownType = codes "UnknownType"
why_text WrongDriver = codes "WrongDriver"
why_text Duplicate = codes "Duplicate"
why_text NoMemory = codes "Memory"

unfoldable pub group_why_text : GroupError → List ℕ
group_why_text group.GroupOpen = codes "GroupOpen"
group_why_text group.BadName = codes "BadName"
group_why_text group.Duplicate = codes "Duplicate"
group_why_text group.Limit = codes "Limit"
group_why_text group.NoGroup = codes "NoGroup"
group_why_text group.InUse = codes "InUse"
group_why_text group.Memory = codes "Memory"

-- `profile LINE BadLine`, `profile LINE NotVoid` or `profile LINE REFUSAL`
unfoldable pub profile_fault_text : ProfileFault → List ℕ
profile_fault_text (BadLine n) = codes "profile " ++ decimal n ++ codes " BadLine\n"
profile_fault_text (Refused n why) =
    codes "profile " ++ decimal n ++ codes " " ++ why_text why ++ codes "\n"
profile_fault_text (GroupRefused n why) =
    codes "profile " ++ decimal n ++ codes " " ++ group_why_text why ++ codes "\n"
profile_fault_text (NotVoid n) = codes "profile " ++ decimal n ++ codes " NotVoid\n"

abbrev pub long_profile_text : List ℕ
long_profile_text = codes "profile 0 TooLong\n"

abbrev pub long_session_text : List ℕ
long_session_text = codes "line 0 TooLong\n"

-- What a profile gives a run: the registration list with its groups, and how much scripts may hold and a
-- command may list.
pub record Start : Type 0 where
  pub list : Grouped
  pub bounds : Bounds

abbrev pub start_by : Grouped → Limits → Start
start_by R limits = record { list = R; bounds = bounds_of limits }

-- the world of an engine that begins so
abbrev pub world_at_start : Start → World
world_at_start s = bounded_by s.bounds no_modules

-- the list over which an engine begins: a group that is open is ended
abbrev pub list_begun : Registrations → Grouped
list_begun r = record { entries = r.entries; groups = (all_ended r).groups }

-- the text of a profile that isn't taken, or what it gives
abbrev pub started_by : Result Registrations ProfileFault → Limits → Result Start (List ℕ)
started_by (Ok r) limits = Ok (start_by (list_begun r) limits)
started_by (Err fault) limits = Err (profile_fault_text fault)

-- A new registry has no entries and no groups, and bit 0 alone in its default mask.
abbrev pub fresh : Registrations
fresh = record { default_mask = record { 0 = 1 }; entries = []; groups = []; is_open = false }

-- what these lines register, and the limits that they set, after these
abbrev pub start_by_lines : Registrations → Limits → List (List ℕ) → Result Start (List ℕ)
start_by_lines r limits lines = started_by (loaded 1 r lines) (limits_of limits lines)

abbrev pub start_of : List ℕ → Result Start (List ℕ)
start_of profile =
    if nat_lt most_profile (length profile)
    then Err long_profile_text
    else start_by_lines fresh no_limits (lines_of profile)

-- What a session does over the list R in the world w, with a writer that has the bytes old and then
-- new: which events its replies list, and the world that it leaves.
module _ (R : Grouped) (w : World) (session : List ℕ) (budget : ℕ)
    (old new : Option (List ℕ)) where
  -- It was read and done.
  abbrev pub RunsSession : Status → List HostEvent → World → Type 0
  RunsSession status es after =
      ((most_session < length session) × Appends old new long_session_text × (status ≡ BadInput)
      × DidNothing w es after)
      ⊎ ((length session ≤ most_session)
      × IsDone R w (session_from 1 budget 0 (lines_of session)) old new status es after)

  -- It was not done to its end.
  abbrev pub StopsSession : List HostEvent → World → Type 0
  StopsSession es after =
      ((most_session < length session) × HasFront old new long_session_text × DidNothing w es after)
      ⊎ IsCut R w (session_from 1 budget 0 (lines_of session)) old new es after

-- A run with the drivers xs that come back as ys, and with a writer that has the bytes old and then
-- new. Here m is the meaning of what is behind each vtable.
module _ {V : Type 0} {P : V → Type 0} (m : Meanings P) (xs ys : List (DynBox V Global P))
    (old new : Option (List ℕ)) where
  -- Nothing was printed, and the drivers are as they were.
  abbrev pub Untouched : Type 0
  Untouched = (new ≡ old) × (ys ≡ xs)

  -- No engine over the list R takes the drivers, which come back as they were. The text that says
  -- why was printed.
  abbrev pub EngineRefused : RegistrationList → Status → Type 0
  EngineRefused R status =
      (why : EngineRefusal) × IsRefused m R xs why × Appends old new (engine_text why)
      × (status ≡ BadInput) × (ys ≡ xs)

  -- The text that says why no engine takes the drivers was cut short.
  abbrev pub EngineStops : RegistrationList → Type 0
  EngineStops R =
      (why : EngineRefusal) × IsRefused m R xs why × HasFront old new (engine_text why) × (ys ≡ xs)

  -- A run that came to its end: what it printed is all.
  abbrev pub Ends : Result Start (List ℕ) → List ℕ → ℕ → Status → Type 0
  Ends (Err text) session budget status = Appends old new text × (status ≡ BadInput) × (ys ≡ xs)
  Ends (Ok s) session budget status =
      EngineRefused s.list.entries status
      ⊎ WasDiscarded m s.list.entries xs ys
      (RunsSession s.list (world_at_start s) session budget old new status)

  -- A run that was cut short: what it printed is a front. It may have been cut before there was an
  -- engine.
  abbrev pub Stops : Result Start (List ℕ) → List ℕ → ℕ → Type 0
  Stops (Err text) session budget = HasFront old new text × (ys ≡ xs)
  Stops (Ok s) session budget =
      Untouched
      ⊎ (EngineStops s.list.entries
      ⊎ WasDiscarded m s.list.entries xs ys
      (StopsSession s.list (world_at_start s) session budget old new))

  -- A text that can't be read is found before anything is printed and any driver is asked. There
  -- may have been an engine.
  abbrev pub Unread : Result Start (List ℕ) → Type 0
  Unread (Err text) = Untouched
  Unread (Ok s) =
      Untouched
      ⊎ ((new ≡ old) × WasDiscarded m s.list.entries xs ys (DidNothing (world_at_start s)))

  -- What a run over these texts prints and asks, by its outcome.
  abbrev pub Tells : Result Start (List ℕ) → List ℕ → ℕ → Result Status IoFault → Type 0
  Tells start session budget (Ok Memory) = Stops start session budget
  Tells start session budget (Err io.Write) = Stops start session budget
  Tells start session budget (Err io.Read) = Unread start
  Tells start session budget (Ok status) = Ends start session budget status

-- a profile that was loaded printed nothing, and one that wasn't said why
abbrev pub Starts : Result Start (List ℕ) → Start → Option (List ℕ) → Option (List ℕ) → Bool → Type 0
Starts start s old new true = (start ≡ Ok s) × (new ≡ old)
Starts start s old new false = (text : List ℕ) × (start ≡ Err text) × Appends old new text

-- a front of what a profile prints that isn't taken, and else nothing
abbrev pub StartStops : Result Start (List ℕ) → Option (List ℕ) → Option (List ℕ) → Type 0
StartStops (Err text) old new = HasFront old new text
StartStops (Ok s) old new = new ≡ old

-- want of memory is a status, and a fault is none
abbrev pub outcome_of : Result Status SessionError → Result Status IoFault
outcome_of (Ok status) = Ok status
outcome_of (Err stop.Memory) = Ok Memory
outcome_of (Err (stop.Fault why)) = Err why

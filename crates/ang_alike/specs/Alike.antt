-- That hidden registrations do not matter: what a module's mask hides is not felt (docs/CLAIMS.md,
-- "What hidden registrations change").
use Rattle.std.specs.Prelude.{◌≡◌, ◌≤◌, ℕ, Bool, true, false, List, [], ◌∷◌, length, Option, Some, None, map as list_map}
use Rattle.ang_kinds.specs.declared.fault.Fault.{Fault}
use Rattle.ang_kinds.specs.declared.fault.Fault.TheVariants.{Null, NoObject, DivideByZero, DivideOverflow, Budget, Depth, Host, BadAnswer, Memory, Tally, Unbound}
use Rattle.ang_host.specs.declared.answer.HostReply.{HostReply}
use Rattle.ang_view.specs.Groups.{Grouped}
use Rattle.ang_view.specs.Registration.{RegistrationList, seen}
use Rattle.ang_view.specs.Values.{TakesValues}
use Rattle.ang_meaning.specs.World.{Bounds, Input, Room, Said, Tallied, Fresh}
use Rattle.ang_meaning.specs.Told.{has_room, answers_listed}
use Rattle.ang_engine_modules.specs.declared.command.Command.{Command}
use Rattle.ang_engine_modules.specs.declared.command.Command.TheVariants.{NewModule, SetMask, AddSection, Build, Bind, Unbind, Call, Discard, RemoveGroup}
use Rattle.ang_engine_modules.specs.declared.reply.Reply.{Reply}
use Rattle.ang_engine_modules.specs.World.{World, no_modules, bounded_by, module_named, module_at}
use Rattle.ang_engine.specs.Step.{Takes, is_budget, fault_told, list_after}
use Rattle.ang_engine_modules.specs.declared.reply.Outcome.TheVariants.{Done}

-- ---- commands in turn

-- A command, and how much the host allows while it is done: that may change from one to the next.
pub record BoundedCommand : Type 0 where
  pub bounds : Bounds
  pub command : Command

-- a list of commands in turn, each of which does this to the world, over the list that those before it
-- have left, within its bounds, and has a reply
abbrev pub InTurn : (Grouped → World → Command → Reply → World → Type 0) → Grouped → World
    → List BoundedCommand → List Reply → World → Type 0
InTurn does R w [] [] after = w ≡ after
InTurn does R w [] (r ∷ rs) after = ⊥
InTurn does R w (c ∷ cs) [] after = ⊥
InTurn does R w (c ∷ cs) (r ∷ rs) after =
    (m : World) × does R (bounded_by c.bounds w) c.command r m
    × InTurn does (list_after R (bounded_by c.bounds w) c.command) m cs rs after

-- ---- commands that were granted all that they asked for

-- It takes the world so, and memory was there each time, and room in each tally. It may have met its
-- bounds: that is no refusal, since what a script does says itself that it fails there. Three things
-- are told as want of memory all the same: what one tick may make, how much text of callers may wait,
-- and a statement inside 4,000 others.
abbrev pub Grants : Grouped → World → Command → Reply → World → Type 0
Grants R before c reply after =
    (takes : Takes R before c reply after) × (has_room takes.used ≡ true)

-- ---- builds that see the same

-- Where the command builds, both lists, as they are then, show the same to the mask of the module.
abbrev pub SeesSame : Grouped → Grouped → World → Command → Type 0
SeesSame R S w (NewModule name mask) = Unit {0}
SeesSame R S w (SetMask name mask) = Unit {0}
SeesSame R S w (AddSection name text) = Unit {0}
SeesSame R S w (Build name budget) =
    (i : ℕ) → module_named name w ≡ Some i → is_budget budget ≡ true
    → seen R.entries (module_at w i).mask ≡ seen S.entries (module_at w i).mask
SeesSame R S w (Bind name index exporter decl) = Unit {0}
SeesSame R S w (Unbind name index) = Unit {0}
SeesSame R S w (Call name decl args budget) = Unit {0}
SeesSame R S w (Discard name) = Unit {0}
SeesSame R S w (RemoveGroup name) = Unit {0}

-- ---- commands that were told alike

-- whether there was memory, or room in a tally, each time that a command asked for it
abbrev pub grants_in : List Input → List Bool
grants_in [] = []
grants_in (Room b ∷ inputs) = b ∷ grants_in inputs
grants_in (Tallied b ∷ inputs) = b ∷ grants_in inputs
grants_in (Said reply ∷ inputs) = grants_in inputs
grants_in (Fresh n ∷ inputs) = grants_in inputs

-- As far as both lists go, they say the same.
abbrev pub Agree : List Bool → List Bool → Type 0
Agree [] ys = Unit {0}
Agree (x ∷ xs) [] = Unit {0}
Agree (x ∷ xs) (y ∷ ys) = (x ≡ y) × Agree xs ys

-- what the drivers answered
abbrev pub answers_in : Reply → List HostReply
answers_in r = answers_listed r.events

-- The command takes a world over the list R, and another over S. If it builds, it sees the same of both
-- lists. Drivers answer the same, and the first request for memory or a tally is granted in both or
-- refused in both, and so is the second, and each that there is in both.
pub record TakenAlike (R S : Grouped) (w u : World) (c : Command) (reply answer : Reply)
    (after left : World) : Type 0 where
  pub one : Takes R w c reply after
  pub other : Takes S u c answer left
  pub sees : SeesSame R S w c
  pub granted : Agree (grants_in one.used) (grants_in other.used)
  pub answers : answers_in reply ≡ answers_in answer

-- A list of commands in turn over two lists and in two worlds, each of which does this to both, within
-- the same bounds, and has a reply in both. Each list is the one that the commands before have left of it.
abbrev pub BothInTurn :
    (Grouped → Grouped → World → World → Command → Reply → Reply → World → World → Type 0) → Grouped
    → Grouped → World → World → List BoundedCommand → List Reply → List Reply → World → World → Type 0
BothInTurn does R S w u [] [] [] after left = (w ≡ after) × (u ≡ left)
BothInTurn does R S w u [] [] (s ∷ ss) after left = ⊥
BothInTurn does R S w u [] (r ∷ rs) ss after left = ⊥
BothInTurn does R S w u (c ∷ cs) [] ss after left = ⊥
BothInTurn does R S w u (c ∷ cs) (r ∷ rs) [] after left = ⊥
BothInTurn does R S w u (c ∷ cs) (r ∷ rs) (s ∷ ss) after left =
    (m : World) × (n : World)
    × does R S (bounded_by c.bounds w) (bounded_by c.bounds u) c.command r s m n
    × BothInTurn does (list_after R (bounded_by c.bounds w) c.command)
    (list_after S (bounded_by c.bounds u) c.command) m n cs rs ss after left

-- ---- the law

-- What a registry holds: at most 1,024 entries, blanks among them, whose declarations take values
-- alone.
pub record IsRegistered (R : RegistrationList) : Type 0 where
  pub values : TakesValues R
  pub few : length R ≤ 1024

-- the reply without its denials
abbrev pub undenied : Reply → Reply
undenied r = record r { denials = [] }

-- What both lists have in common of the reply to a command: all but denials; and of the removal of a
-- group, which one list may have and the other not, nothing.
abbrev pub common : Command → Reply → Reply
common (NewModule name mask) r = undenied r
common (SetMask name mask) r = undenied r
common (AddSection name text) r = undenied r
common (Build name budget) r = undenied r
common (Bind name index exporter decl) r = undenied r
common (Unbind name index) r = undenied r
common (Call name decl args budget) r = undenied r
common (Discard name) r = undenied r
common (RemoveGroup name) r = record r { outcome = Done None; denials = [] }

-- of the replies to commands in turn
abbrev pub common_in : List BoundedCommand → List Reply → List Reply
common_in [] rs = []
common_in (c ∷ cs) [] = []
common_in (c ∷ cs) (r ∷ rs) = common c.command r ∷ common_in cs rs

-- one was granted all that it asked for in both, and if it builds, it sees the same of both lists
abbrev pub BothGranted : Grouped → Grouped → World → World → Command → Reply → Reply → World → World
    → Type 0
BothGranted R S w u c r s after left =
    Grants R w c r after × Grants S u c s left × SeesSame R S w c

-- Commands over the list R of a registry and over S, each of whose builds sees the same of both lists as
-- they are then, within the same bounds: where drivers answer the same, and memory was refused in neither,
-- the replies are the same but for their denials and for what `RemoveGroup` answers. So they are where a
-- limit was met. That S is a registry's is not asked, since builds see nothing else of it.
abbrev pub HiddenDoesNotMatter : Type 0
HiddenDoesNotMatter =
    (R S : Grouped) (cs : List BoundedCommand) (rs ss : List Reply) (v w : World)
    → IsRegistered R.entries
    → BothInTurn BothGranted R S no_modules no_modules cs rs ss v w
    → list_map answers_in rs ≡ list_map answers_in ss
    → common_in cs rs ≡ common_in cs ss

-- Over one list of a registry the replies are the same with their denials: they are decided by the
-- commands, their bounds and what drivers answer, whatever numbers script objects are given.
abbrev pub AnswersDecide : Type 0
AnswersDecide =
    (R : Grouped) (cs : List BoundedCommand) (rs ss : List Reply) (v w : World)
    → IsRegistered R.entries
    → InTurn Grants R no_modules cs rs v
    → InTurn Grants R no_modules cs ss w
    → list_map answers_in rs ≡ list_map answers_in ss
    → rs ≡ ss

-- Commands over the list R of a registry and over S, told alike, those that were refused memory or a
-- tally among them: the replies are the same but for their denials and for what `RemoveGroup` answers. So
-- two engines under the same limits reply otherwise only from a request on that one was granted and the
-- other was refused: by a driver's tally, or for want of memory as `Grants` has it.
abbrev pub ToldAlikeReplyAlike : Type 0
ToldAlikeReplyAlike =
    (R S : Grouped) (cs : List BoundedCommand) (rs ss : List Reply) (v w : World)
    → IsRegistered R.entries
    → BothInTurn TakenAlike R S no_modules no_modules cs rs ss v w
    → common_in cs rs ≡ common_in cs ss

-- over one list of a registry with their denials
abbrev pub ToldAlikeReplySame : Type 0
ToldAlikeReplySame =
    (R : Grouped) (cs : List BoundedCommand) (rs ss : List Reply) (v w : World)
    → IsRegistered R.entries
    → BothInTurn TakenAlike R R no_modules no_modules cs rs ss v w
    → rs ≡ ss

-- ---- commands whose replies tell of no refusal

-- whether a fault is what one tells that was refused memory, or one more reference
abbrev pub is_want : Fault → Bool
is_want Null = false
is_want NoObject = false
is_want DivideByZero = false
is_want DivideOverflow = false
is_want Budget = false
is_want Depth = false
is_want (Host n) = false
is_want BadAnswer = false
is_want Memory = true
is_want Tally = true
is_want Unbound = false

abbrev pub tells_of_want : Option Fault → Bool
tells_of_want None = false
tells_of_want (Some f) = is_want f

-- The reply tells of no refusal: it is not refused for want of memory, and ends with no such fault.
abbrev pub IsUnrefused : Reply → Type 0
IsUnrefused r = tells_of_want (fault_told r.outcome) ≡ false

-- it takes the world so, and tells of no refusal
abbrev pub Unrefused : Grouped → World → Command → Reply → World → Type 0
Unrefused R before c reply after = Takes R before c reply after × IsUnrefused reply

-- over two lists, and if it builds, it sees the same of both
abbrev pub BothUnrefused : Grouped → Grouped → World → World → Command → Reply → Reply → World → World
    → Type 0
BothUnrefused R S w u c r s after left =
    Unrefused R w c r after × Unrefused S u c s left × SeesSame R S w c

-- What a host can read off its replies: the same commands within the same bounds over both lists, with
-- the same answers of drivers, have the same replies but for denials and for what `RemoveGroup` answers,
-- as long as none of them tells of a refusal. What meets a limit has the fault `Memory` too, so this says
-- nothing of it.
abbrev pub UnrefusedReplyAlike : Type 0
UnrefusedReplyAlike =
    (R S : Grouped) (cs : List BoundedCommand) (rs ss : List Reply) (v w : World)
    → IsRegistered R.entries
    → BothInTurn BothUnrefused R S no_modules no_modules cs rs ss v w
    → list_map answers_in rs ≡ list_map answers_in ss
    → common_in cs rs ≡ common_in cs ss

-- over one list of a registry with their denials
abbrev pub UnrefusedReplySame : Type 0
UnrefusedReplySame =
    (R : Grouped) (cs : List BoundedCommand) (rs ss : List Reply) (v w : World)
    → IsRegistered R.entries
    → InTurn Unrefused R no_modules cs rs v
    → InTurn Unrefused R no_modules cs ss w
    → list_map answers_in rs ≡ list_map answers_in ss
    → rs ≡ ss

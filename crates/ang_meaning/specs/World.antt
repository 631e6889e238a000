-- The world outside the locals of a run: objects with the counts of the places that hold them, globals, events, and what the run is told from
-- outside (docs/CLAIMS.md, "The world of a run"; the AngelScript manual, "Memory management").
use Rattle.std.specs.Prelude.{ℕ, suc, ◌+◌, ◌-◌, ◌^◌, Bool, true, false, cond, nat_eq, nat_lt, nat_le, ltb, length, List, [], ◌∷◌, ◌++◌, Option, Some, None, if◌then◌else◌}
use Rattle.std.specs.Ordering.{nat_cmp}
use Rattle.std.specs.FinMap as map
use Rattle.ang_host.specs.declared.answer.HostReply.{HostReply}
use Rattle.ang_host.specs.declared.event.HostEvent.{HostEvent}
use Rattle.ang_host.specs.declared.event.HostEvent.TheVariants.{Ended}
use Rattle.ang_host.specs.State.{count_at}
use Rattle.ang_meaning.specs.declared.slot.Slot.{Slot}
use Rattle.ang_meaning.specs.declared.slot.Slot.TheVariants.{Script, Host}

-- a script object, which the table of objects has under its number: its class, that class's rank, the places that hold it, and its fields, those of the
-- base class first, in order of declaration. The class is a number of the module that made the object; objects do not pass between modules.
pub record ScriptRecord : Type 0 where
  pub class : ℕ
  pub rank : ℕ
  pub count : ℕ
  pub fields : List Slot

abbrev pub ScriptObjects : Type 0
ScriptObjects = map.FinMap nat_cmp ScriptRecord

-- by driver, how many places hold each of its live keys
abbrev pub HostCounts : Type 0
HostCounts = ℕ → map.FinMap nat_cmp ℕ

-- What a run is told from outside, in the order in which it asks: whether there is memory where it wants some, what a driver answered, whether a tally
-- has room for one more place, and the number of a new script object.
pub data Input : Type 0 where
  Room : Bool → Input
  Said : HostReply → Input
  Tallied : Bool → Input
  Fresh : ℕ → Input

-- How much a host allows: events in a command with the ends that are owed, slots of script objects, and live host objects (docs/HOST.md, "Limits").
pub record Bounds : Type 0 where
  pub events : ℕ
  pub slots : ℕ
  pub objects : ℕ

pub record World : Type 0 where
  pub objects : ScriptObjects
  pub hosts : HostCounts
  pub globals : List (List Slot)
  pub events : List HostEvent
  -- how many events are listed or owed: each host object that lives will end once
  pub reserved : ℕ
  -- whether a reference was refused since a driver's tally has run out
  pub spent : Bool
  pub bounds : Bounds
  pub inputs : List Input

abbrev pub with_inputs : List Input → World → World
with_inputs is w = record w { inputs = is }

-- a step that may be refused; the world is told either way
pub data Tried : Type 0 where
  Yes : World → Tried
  No : World → Tried

abbrev pub if_told : Bool → World → Tried
if_told true w = Yes w
if_told false w = No w

-- ---- what a host allows

-- whether so many events more are allowed
abbrev pub has_events : ℕ → World → Bool
has_events more w = nat_le (w.reserved + more) w.bounds.events

-- how many host objects live
abbrev pub live_hosts : World → ℕ
live_hosts w = w.reserved - length w.events

-- whether one host object more is allowed
abbrev pub has_object : World → Bool
has_object w = nat_lt (live_hosts w) w.bounds.objects

-- what follows a step that may be refused: the first where it was, and else the second
abbrev pub or_else : {A : Type 0} → Tried → (World → A) → (World → A) → A
or_else (No w) out go = out w
or_else (Yes w) out go = go w

-- a step that wants memory
abbrev pub memory_told : List Input → World → Tried
memory_told (Room b ∷ rest) w = if_told b (with_inputs rest w)
memory_told _ w = No w

unfoldable pub memory_step : World → Tried
memory_step w = memory_told w.inputs w

-- one more place holds a script object, if it is there
abbrev pub raised_at : ℕ → Option ScriptRecord → ScriptObjects → ScriptObjects
raised_at n None os = os
raised_at n (Some o) os = map.insert os n (record o { count = suc o.count })

unfoldable pub script_raised : ℕ → ScriptObjects → ScriptObjects
script_raised n os = raised_at n (map.get os n) os

-- the counts of one driver are these now
abbrev pub host_put : ℕ → map.FinMap nat_cmp ℕ → HostCounts → HostCounts
host_put d m hs = λ e. cond (nat_eq d e) m (hs e)

-- one more place holds a host object, which comes to be there with its first place
unfoldable pub host_raised : ℕ → ℕ → HostCounts → HostCounts
host_raised d k hs = host_put d (map.insert (hs d) k (suc (count_at (hs d) k))) hs

unfoldable pub one_more : Slot → World → World
one_more (Script (Some n)) w = record w { objects = script_raised n w.objects }
one_more (Host d (Some k)) w = record w { hosts = host_raised d k w.hosts }
one_more v w = w

-- Which limit a hold can meet: a script object's count stands at its end or inside it; of a host object the driver decides, whose
-- tallies no world has.
pub data HoldLimit : Type 0 where
  Inside : HoldLimit
  AtEnd : HoldLimit
  OfDriver : HoldLimit

abbrev pub hold_limit_of : Option ScriptRecord → HoldLimit
hold_limit_of None = Inside
hold_limit_of (Some o) = if ltb o.count (2 ^ 64 - 1) then Inside else AtEnd

-- a refusal that can't be is left, as an input of another sort is; that of a driver is noted
abbrev pub refused_at : HoldLimit → List Input → World → Tried
refused_at Inside rest w = No w
refused_at AtEnd rest w = No (with_inputs rest w)
refused_at OfDriver rest w = No (record w { inputs = rest; spent = true })

-- a tally is asked for room where an object is held once more
abbrev pub tally_told : HoldLimit → List Input → World → Tried
tally_told e (Tallied true ∷ rest) w = Yes (with_inputs rest w)
tally_told e (Tallied false ∷ rest) w = refused_at e rest w
tally_told e _ w = No w

unfoldable pub tally_step : Slot → World → Tried
tally_step (Script (Some n)) w = tally_told (hold_limit_of (map.get w.objects n)) w.inputs w
tally_step (Host d (Some k)) w = tally_told OfDriver w.inputs w
tally_step v w = Yes w

-- one more place holds the value, unless a tally is full
unfoldable pub hold : Slot → World → Tried
hold v w = or_else (tally_step v w) No (λ u. Yes (one_more v u))

-- the script objects that are left, with the fields of the one that ended
pub data Lowered : Type 0 where
  Gone : List Slot → ScriptObjects → Lowered
  Kept : ScriptObjects → Lowered

abbrev pub one_less : ℕ → ScriptRecord → ℕ → ScriptObjects → Lowered
one_less n o (suc (suc c)) os = Kept (map.insert os n (record o { count = suc c }))
one_less n o _ os = Gone o.fields (map.remove os n)

abbrev pub lowered_at : ℕ → Option ScriptRecord → ScriptObjects → Lowered
lowered_at n None os = Kept os
lowered_at n (Some o) os = one_less n o o.count os

unfoldable pub script_lowered : ℕ → ScriptObjects → Lowered
script_lowered n os = lowered_at n (map.get os n) os

-- whether the host object ended, and the host objects that are left
pub record HostLowered : Type 0 where
  pub ended : Bool
  pub hosts : HostCounts

abbrev pub host_less : ℕ → ℕ → Option ℕ → HostCounts → HostLowered
host_less d k None hs = record { ended = false; hosts = hs }
host_less d k (Some (suc (suc c))) hs = record { ended = false; hosts = host_put d (map.insert (hs d) k (suc c)) hs }
host_less d k (Some _) hs = record { ended = true; hosts = host_put d (map.remove (hs d) k) hs }

unfoldable pub host_lowered : ℕ → ℕ → HostCounts → HostLowered
host_lowered d k hs = host_less d k (map.get (hs d) k) hs

-- the end of a host object is listed
abbrev pub host_given : ℕ → ℕ → HostLowered → World → World
host_given d k l w = record w { hosts = l.hosts; events = if l.ended then (w.events ++ Ended d k ∷ []) else w.events }

-- each in turn, the first one first
abbrev pub each_given : (Slot → World → World) → List Slot → World → World
each_given go [] w = w
each_given go (v ∷ vs) w = each_given go vs (go v w)

-- a script object that ended gives up its fields
abbrev pub script_given : (Slot → World → World) → Lowered → World → World
script_given go (Kept os) w = record w { objects = os }
script_given go (Gone vs os) w = each_given go vs (record w { objects = os })

-- One place fewer, where at most n script objects end one inside the other. Each leaves the world as it ends, so there are never more than the world has.
unfoldable pub given : ℕ → Slot → World → World
given n (Host d (Some k)) w = host_given d k (host_lowered d k w.hosts) w
given n (Script None) w = w
given (suc n) (Script (Some k)) w = script_given (given n) (script_lowered k w.objects) w
given n v w = w

-- one place gives up its value
unfoldable pub give : Slot → World → World
give v w = given (map.len w.objects) v w

-- all of these, the first one first
abbrev pub give_all : List Slot → World → World
give_all [] w = w
give_all (v ∷ vs) w = give_all vs (give v w)

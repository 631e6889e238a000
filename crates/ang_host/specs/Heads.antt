-- How an event is kept: a head, with the caller's name and the arguments in lists beside it.
use Rattle.std.specs.Prelude.{ℕ, ◌+◌, ◌%◌, ◌^◌, ◌≡◌, ◌<◌, ◌≤◌, Bool, true, false, List, [], Option, Some, None, take, drop, map as list_map, slice_index_or}
use Rattle.std.specs.Int.{w64, cast_signed}
use Rattle.ang_kinds.specs.declared.value.Value.{Value}
use Rattle.ang_kinds.specs.declared.value.Value.TheVariants.{Int as IntValue, Uint as UintValue, Bool as BoolValue, Key as KeyValue}
use Rattle.ang_host.specs.declared.answer.Made.TheVariants.{Key as KeyMade, Nothing, Fault as FaultMade, Memory as MemoryMade, Full as FullMade}
use Rattle.ang_host.specs.declared.answer.Answer.TheVariants.{Void as VoidAnswer, Gave, Fault as FaultAnswer, Memory as MemoryAnswer, Full as FullAnswer}
use Rattle.ang_host.specs.declared.answer.HostReply.{HostReply}
use Rattle.ang_host.specs.declared.answer.HostReply.TheVariants.{Making, Asking}
use Rattle.ang_host.specs.declared.event.HostEvent.{HostEvent}
use Rattle.ang_host.specs.declared.event.HostEvent.TheVariants.{Called, Ended}
use Rattle.ang_host.specs.declared.head.Head.{Head}
use Rattle.ang_host.specs.declared.head.HeadKind.{HeadKind}
use Rattle.ang_host.specs.declared.head.HeadKind.TheVariants.{Call, ObjectCall, End}
use Rattle.ang_host.specs.declared.head.ReplyKind.{ReplyKind}
use Rattle.ang_host.specs.declared.head.ReplyKind.TheVariants.{MadeKey, MadeNothing, MadeFault, MadeMemory, MadeFull, Void, Int, Uint, True, False, Null, Key, Fault, Memory, Full}

-- the reply that is kept as a kind and a number
abbrev pub reply_in : ReplyKind → ℕ → HostReply
reply_in MadeKey n = Making (KeyMade n)
reply_in MadeNothing n = Making Nothing
reply_in MadeFault n = Making (FaultMade (n % 2 ^ 32))
reply_in MadeMemory n = Making MemoryMade
reply_in MadeFull n = Making FullMade
reply_in Void n = Asking VoidAnswer
reply_in Int n = Asking (Gave (IntValue (cast_signed w64 n)))
reply_in Uint n = Asking (Gave (UintValue n))
reply_in True n = Asking (Gave (BoolValue true))
reply_in False n = Asking (Gave (BoolValue false))
reply_in Null n = Asking (Gave (KeyValue None))
reply_in Key n = Asking (Gave (KeyValue (Some n)))
reply_in Fault n = Asking (FaultAnswer (n % 2 ^ 32))
reply_in Memory n = Asking MemoryAnswer
reply_in Full n = Asking FullAnswer

-- the object that was asked, where k is the key that is kept
abbrev pub object_in : HeadKind → ℕ → Option ℕ
object_in Call k = None
object_in ObjectCall k = Some k
object_in End k = None

abbrev pub is_end : HeadKind → Bool
is_end Call = false
is_end ObjectCall = false
is_end End = true

-- the event of a head, with its caller's name and its arguments
abbrev pub event_with : Bool → Head → List ℕ → List Value → HostEvent
event_with true h caller args = Ended h.driver h.key
event_with false h caller args =
    Called caller h.entity h.driver (object_in h.kind h.key) args (reply_in h.reply h.number)

-- the event of a head, where these are all names and the arguments of all calls
abbrev pub event_at : List (List ℕ) → List Value → Head → HostEvent
event_at names values h =
    event_with (is_end h.kind) h (slice_index_or names h.caller []) (take h.count (drop h.first values))

-- the events of all heads
abbrev pub read_back : List (List ℕ) → List Value → List Head → List HostEvent
read_back names values heads = list_map (event_at names values) heads

-- so many names and arguments have what the head wants
pub record IsWithin (names values : ℕ) (h : Head) : Type 0 where
  pub named : is_end h.kind ≡ false → h.caller < names
  pub placed : h.first + h.count ≤ values

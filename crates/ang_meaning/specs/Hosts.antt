-- Values that pass between a script and its drivers, and host calls (docs/CLAIMS.md, "Operations"; docs/HOST.md, "Drivers"; the AngelScript manual, "Registering a function").
use Rattle.std.specs.Prelude.{ℕ, suc, ◌^◌, ◌-◌, ◌&&◌, Bool, true, false, not, nat_eq, nat_lt, int_le, ℤ, pos, negsuc, List, [], ◌∷◌, ◌++◌, Option, Some, None, if◌then◌else◌}
use Rattle.ang_kinds.specs.declared.value.Value.{Value}
use Rattle.ang_kinds.specs.declared.value.Value.TheVariants.{Int, Uint, Bool as Truth, Key}
use Rattle.ang_kinds.specs.declared.primitive.Primitive.{Primitive}
use Rattle.ang_kinds.specs.declared.primitive.Primitive.TheVariants.{U8, U16, U32, U64, Bool as TruthType}
use Rattle.ang_kinds.specs.declared.mask.EntityNo.{EntityNo}
use Rattle.ang_kinds.specs.declared.fault.Fault.{Fault}
use Rattle.ang_kinds.specs.declared.fault.Fault.TheVariants.{Host as HostFault, BadAnswer, NoObject, Memory, Tally}
use Rattle.ang_host.specs.declared.answer.Made.TheVariants.{Key as MadeKey, Nothing as MadeNothing, Fault as MadeFault, Memory as MadeMemory, Full as MadeFull}
use Rattle.ang_host.specs.declared.answer.Answer.TheVariants.{Void, Gave, Fault as SaidFault, Memory as SaidMemory, Full}
use Rattle.ang_host.specs.declared.answer.HostReply.{HostReply}
use Rattle.ang_host.specs.declared.answer.HostReply.TheVariants.{Making, Asking}
use Rattle.ang_host.specs.declared.event.HostEvent.TheVariants.{Called}
use Rattle.ang_host.specs.declared.event.Role.{Role}
use Rattle.ang_host.specs.declared.event.Role.TheVariants.{Making as MakingRole, Calling as CallingRole, Property as PropertyRole}
use Rattle.ang_meaning.specs.declared.slot.Slot.{Slot}
use Rattle.ang_meaning.specs.declared.slot.Slot.TheVariants.{Bits, Script, Host}
use Rattle.ang_meaning.specs.declared.host.HostValueType.{HostValueType}
use Rattle.ang_meaning.specs.declared.host.HostValueType.TheVariants.{Nothing, Plain, Handle}
use Rattle.ang_meaning.specs.Numbers.{number, bits_of, least}
use Rattle.ang_kinds.specs.Primitives.{is_signed, width_of}
use Rattle.ang_meaning.specs.World.{World, Input, Said, or_else, memory_step, one_more, hold, has_events, has_object}
use Rattle.ang_meaning.specs.Environment.{Environment, use_at}

-- a strict operation: a value and what is left, or a fault
pub data Done : Type 0 where
  Fine : Slot → World → Done
  Fails : Fault → World → Done

-- the value, which one more place holds, unless a tally is full
abbrev pub holding : Slot → World → Done
holding v w = or_else (hold v w) (Fails Tally) (Fine v)

-- a number as it is handed to a driver
abbrev pub plain_value : Primitive → ℕ → Value
plain_value TruthType n = Truth (not (nat_eq n 0))
plain_value U8 n = Uint n
plain_value U16 n = Uint n
plain_value U32 n = Uint n
plain_value U64 n = Uint n
plain_value _ n = Int (number true n)

-- a slot as it is handed to driver d, where its declared type is this; what is not of the type goes as the null key
abbrev pub value_of : ℕ → HostValueType → Slot → Value
value_of d (Plain p) (Bits n) = plain_value p n
value_of d Handle (Host e (Some k)) = if nat_eq d e then Key (Some k) else Key None
value_of d _ _ = Key None

abbrev pub values_of : ℕ → List HostValueType → List Slot → List Value
values_of d [] vs = []
values_of d (ty ∷ types) [] = []
values_of d (ty ∷ types) (v ∷ vs) = value_of d ty v ∷ values_of d types vs

-- an integer type without a sign
abbrev pub is_unsigned : Primitive → Bool
is_unsigned U8 = true
is_unsigned U16 = true
is_unsigned U32 = true
is_unsigned U64 = true
is_unsigned _ = false

-- whether a number is in the range of a signed type
abbrev pub is_within : Primitive → ℤ → Bool
is_within p (pos n) = nat_lt n (2 ^ (width_of p - 1))
is_within p (negsuc n) = int_le (least p) (negsuc n)

abbrev pub if_within : Bool → ℕ → Option Slot
if_within true n = Some (Bits n)
if_within false n = None

-- What a driver's value of a declared type is in a slot; none where it is not of that type or not in its range. There is one null, whatever the type.
unfoldable pub slot_of : ℕ → HostValueType → Value → Option Slot
slot_of d (Plain p) (Int z) = if_within (is_signed p && is_within p z) (bits_of p z)
slot_of d (Plain TruthType) (Truth b) = Some (Bits (if b then 1 else 0))
slot_of d (Plain p) (Uint n) = if_within (is_unsigned p && nat_lt n (2 ^ width_of p)) n
slot_of d Handle (Key None) = Some (Script None)
slot_of d Handle (Key (Some k)) = Some (Host d (Some k))
slot_of d _ _ = None

abbrev pub accepted : Option Slot → World → Done
accepted None w = Fails BadAnswer w
accepted (Some v) w = holding v w

-- whether the declared result is void
abbrev pub is_void : HostValueType → Bool
is_void Nothing = true
is_void _ = false

-- one event more is listed or owed
abbrev pub one_reserved : World → World
one_reserved w = record w { reserved = suc w.reserved }

-- What a driver's reply gives to the script. A made object has its first place already, and its end is owed.
unfoldable pub replied_by : ℕ → HostValueType → HostReply → World → Done
replied_by d result (Making (MadeKey k)) w = Fine (Host d (Some k)) (one_more (Host d (Some k)) (one_reserved w))
replied_by d result (Making MadeNothing) w = Fails NoObject w
replied_by d result (Making (MadeFault n)) w = Fails (HostFault n) w
replied_by d result (Making MadeMemory) w = Fails Memory w
replied_by d result (Making MadeFull) w = Fails Tally w
replied_by d result (Asking Void) w = if is_void result then Fine (Bits 0) w else Fails BadAnswer w
replied_by d result (Asking (Gave v)) w = accepted (slot_of d result v) w
replied_by d result (Asking (SaidFault n)) w = Fails (HostFault n) w
replied_by d result (Asking SaidMemory) w = Fails Memory w
replied_by d result (Asking Full) w = Fails Tally w

-- whether a reply is of the kind that an entity of this role gives: a factory says what it made, a function, method or property what it answers
abbrev pub is_reply_to : Role → HostReply → Bool
is_reply_to (MakingRole f) (Making made) = true
is_reply_to (CallingRole f) (Asking answer) = true
is_reply_to (PropertyRole f) (Asking answer) = true
is_reply_to _ _ = false

-- Whether the host's bounds allow that an entity of this role is asked: its event, and for a factory one object more, which will end once.
abbrev pub may_ask : Role → World → Bool
may_ask (MakingRole f) w = has_object w && has_events 2 w
may_ask _ w = has_events 1 w

-- One host call: the event is listed, whatever the reply says. A reply of another kind is none to this host call, and is left as an input of another sort is.
abbrev pub asked_from : Environment → ℕ → EntityNo → Option ℕ → List Value → HostValueType → List Input → World → Done
asked_from z m e object args result (Said reply ∷ rest) w =
    if is_reply_to (use_at z m e).role reply
    then (replied_by (use_at z m e).driver result reply
    (record w { inputs = rest; events = w.events ++ Called (z.name m) e (use_at z m e).driver object args reply ∷ []; reserved = suc w.reserved }))
    else (Fails Memory w)
asked_from z m e object args result _ w = Fails Memory w

-- A host call of entity e for module m, where the bounds allow it: memory for its event first, and then the driver's reply.
unfoldable pub asked : Environment → ℕ → EntityNo → Option ℕ → List Value → HostValueType → World → Done
asked z m e object args result w =
    if may_ask (use_at z m e).role w
    then (or_else (memory_step w) (Fails Memory) (λ u. asked_from z m e object args result u.inputs u))
    else (Fails Memory w)

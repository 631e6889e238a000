-- What the faults `BadAnswer`, `NoObject` and `Tally` come of (docs/CLAIMS.md, "Operations" and "The world of a run"; docs/HOST.md, "Faults").
use Rattle.std.specs.Prelude.{◌≡◌, ◌⊎◌, ◌≤◌, ℕ, ◌-◌, ◌^◌, true, false, List, ◌∷◌, ◌++◌, Option, Some, None}
use Rattle.std.specs.FinMap as map
use Rattle.ang_kinds.specs.declared.fault.Fault.{Fault}
use Rattle.ang_kinds.specs.declared.fault.Fault.TheVariants.{BadAnswer, NoObject}
use Rattle.ang_host.specs.declared.answer.Made.TheVariants.{Nothing as MadeNothing}
use Rattle.ang_host.specs.declared.answer.Answer.TheVariants.{Void, Gave, Fault as SaidFault, Memory as SaidMemory, Full}
use Rattle.ang_host.specs.declared.answer.HostReply.{HostReply}
use Rattle.ang_host.specs.declared.answer.HostReply.TheVariants.{Making, Asking}
use Rattle.ang_host.specs.declared.event.HostEvent.{HostEvent}
use Rattle.ang_host.specs.Events.{some_full}
use Rattle.ang_meaning.specs.declared.slot.Slot.{Slot}
use Rattle.ang_meaning.specs.declared.slot.Slot.TheVariants.{Bits, Script, Host}
use Rattle.ang_meaning.specs.declared.host.HostValueType.{HostValueType}
use Rattle.ang_meaning.specs.World.{World, Input, Tallied, with_inputs, No, hold}
use Rattle.ang_meaning.specs.Counting.{count_of_object}
use Rattle.ang_meaning.specs.Told.{Told}
use Rattle.ang_meaning.specs.Hosts.{Done, Fine, Fails, is_void, slot_of, replied_by}

abbrev pub fault_of : Done → Option Fault
fault_of (Fine v w) = None
fault_of (Fails f w) = Some f

-- a driver's answer that is not of the declared type, or not in its range
abbrev pub IsBadAnswer : ℕ → HostValueType → HostReply → Type 0
IsBadAnswer driver declared (Making made) = ⊥
IsBadAnswer driver declared (Asking Void) = is_void declared ≡ false
IsBadAnswer driver declared (Asking (Gave v)) = slot_of driver declared v ≡ None
IsBadAnswer driver declared (Asking (SaidFault n)) = ⊥
IsBadAnswer driver declared (Asking SaidMemory) = ⊥
IsBadAnswer driver declared (Asking Full) = ⊥

-- `BadAnswer` comes of such an answer alone
abbrev pub BadAnswersAreBad : Type 0
BadAnswersAreBad = (driver : ℕ) (declared : HostValueType) (reply : HostReply) (w : World) → fault_of (replied_by driver declared reply w) ≡ Some BadAnswer → IsBadAnswer driver declared reply

-- `NoObject` comes only where a factory made none
abbrev pub NoObjectIsMade : Type 0
NoObjectIsMade = (driver : ℕ) (declared : HostValueType) (reply : HostReply) (w : World) → fault_of (replied_by driver declared reply w) ≡ Some NoObject → reply ≡ Making MadeNothing

-- Why one place more of a value may be refused: its script object's count stands at its end; and of a host object, the world after it notes that a driver
-- refused a reference.
abbrev pub IsDue : Slot → World → World → Type 0
IsDue (Bits n) before after = ⊥
IsDue (Script None) before after = ⊥
IsDue (Script (Some n)) before after = 2 ^ 64 - 1 ≤ count_of_object (map.get before.objects n)
IsDue (Host d None) before after = ⊥
IsDue (Host d (Some k)) before after = after.spent ≡ true

-- where a hold is refused, told some inputs and any further ones, which it leaves, the refusal is due
abbrev pub RefusedHoldsAreDue : Type 0
RefusedHoldsAreDue = (v : Slot) (before after : World) → Told (λ is. hold v (with_inputs is before)) (λ is. No (with_inputs is after)) → IsDue v before after

-- the count of a script object stands at its end, and what is told next is that one place more is refused
pub record RefusesFullCount (w : World) : Type 0 where
  pub object : ℕ
  pub full : 2 ^ 64 - 1 ≤ count_of_object (map.get w.objects object)
  pub rest : List Input
  pub told : w.inputs ≡ Tallied false ∷ rest

-- among the host calls that were listed since, one was answered `Full`
pub record WasAnsweredFull (before after : World) : Type 0 where
  pub more : List HostEvent
  pub events : after.events ≡ before.events ++ more
  pub full : some_full more ≡ true

-- What a fault `Tally` comes of: a driver refused a reference, which the world after it notes, or answered `Full`, or a count stood at its end.
abbrev pub TallyCause : Type 0 → World → World → Type 0
TallyCause AtCount before after = (after.spent ≡ true) ⊎ (WasAnsweredFull before after ⊎ AtCount)

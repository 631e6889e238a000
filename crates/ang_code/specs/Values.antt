-- What a call from outside gets of the value that a body gave.
use Rattle.std.specs.Prelude.{Option, option_map, Result, Ok, Err}
use Rattle.ang_kinds.specs.declared.fault.Fault.{Fault}
use Rattle.ang_kinds.specs.declared.primitive.Primitive.{Primitive}
use Rattle.ang_kinds.specs.declared.value.Value.{Value}
use Rattle.ang_meaning.specs.declared.slot.Slot.{Slot}
use Rattle.ang_meaning.specs.declared.host.HostValueType.TheVariants.{Plain}
use Rattle.ang_meaning.specs.Hosts.{value_of}

-- The value in a slot, where it is of a primitive type; for such a type a driver's number plays no part. Of any other type none is handed out.
abbrev pub value_in : Option Primitive → Slot → Option Value
value_in type v = option_map (λ p. value_of 0 (Plain p) v) type

-- how the end of a call is answered: with its value, or with its fault
abbrev pub answer_of : Option Primitive → Result Slot Fault → Result (Option Value) Fault
answer_of type (Ok v) = Ok (value_in type v)
answer_of type (Err f) = Err f

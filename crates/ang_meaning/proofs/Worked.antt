-- Worked examples of the operators, of `is` and of limits, computed.
use Rattle.std.proofs.Common.{◌≡◌, ℕ, ◌+◌, ◌-◌, ◌^◌, List, [], ◌∷◌, refl, ap, ◌∙◌}
use Rattle.std.specs.Prelude.{true, false, cond, nat_le, Some, None}
use Rattle.std.specs.Ordering.{nat_cmp}
use Rattle.std.specs.FinMap as map
use Rattle.std.specs.FinMap.{get-empty}
use Rattle.std.specs.Int.{int_wrap}
use Rattle.ang_kinds.specs.declared.primitive.Primitive.TheVariants.{I8, I32, I64, U8, U32, U64}
use Rattle.ang_kinds.specs.declared.fault.Fault.TheVariants.{DivideByZero, DivideOverflow, Memory}
use Rattle.ang_kinds.specs.declared.mask.EntityNo.{EntityNo}
use Rattle.ang_kinds.specs.declared.operator.Operator.TheVariants.{Add, Divide, Remainder, BitAnd, ShiftLeft, ShiftRight, ShiftRightArithmetic}
use Rattle.ang_kinds.specs.declared.operator.Comparison.TheVariants.{Less}
use Rattle.ang_host.specs.declared.answer.Answer.TheVariants.{Void}
use Rattle.ang_host.specs.declared.answer.HostReply.TheVariants.{Asking}
use Rattle.ang_host.specs.declared.event.HostEvent.TheVariants.{Called}
use Rattle.ang_host.specs.declared.event.Role.TheVariants.{Calling as CallingRole}
use Rattle.ang_meaning.specs.declared.slot.Slot.TheVariants.{Bits, Script, Host}
use Rattle.ang_meaning.specs.declared.class.ValueKind.TheVariants.{Number as NumberField}
use Rattle.ang_meaning.specs.declared.host.HostValueType.TheVariants.{Nothing}
use Rattle.ang_meaning.specs.declared.operation.Operation.TheVariants.{Make}
use Rattle.ang_meaning.specs.World.{World, Input, Room, Said, Fresh, or_else, memory_step}
use Rattle.ang_meaning.specs.Environment.{Environment, class_at, is_null}
use Rattle.ang_meaning.specs.Hosts.{Fine, Fails, replied_by, asked}
use Rattle.ang_meaning.specs.Perform.{is_same, number_at, number_for, made_at, made_from, perform}
use Rattle.ang_meaning.proofs.Slots.{empty_slots}
use Rattle.ang_meaning.specs.Numbers.{Is, Cannot, binary_result, converted, negated, complemented, holds_of, Into, changed}

-- 64 bits that stand for -n
abbrev minus : ℕ → ℕ
minus n = 2 ^ 64 - n

-- -8 >> 1 fills zeros into 32 bits, and -8 >>> 1 copies the sign
zeros : binary_result ShiftRight I32 (minus 8) 1 ≡ Is 2147483644
unfolding binary_result int_wrap
zeros = refl

sign : binary_result ShiftRightArithmetic I32 (minus 8) 1 ≡ Is (minus 4)
unfolding binary_result int_wrap
sign = refl

-- the least `int` divided by -1, and the same in 64 bits
least_int : binary_result Divide I32 (minus 2147483648) (minus 1) ≡ Cannot DivideOverflow
unfolding binary_result int_wrap
least_int = refl

wide : binary_result Divide I64 (minus 2147483648) (minus 1) ≡ Is 2147483648
unfolding binary_result int_wrap
wide = refl

-- division truncates toward zero, and the remainder has the sign of the first
toward_zero : binary_result Divide I32 (minus 7) 2 ≡ Is (minus 3)
unfolding binary_result int_wrap
toward_zero = refl

rest : binary_result Remainder I32 (minus 7) 2 ≡ Is (minus 1)
unfolding binary_result int_wrap
rest = refl

by_zero : binary_result Remainder U64 7 0 ≡ Cannot DivideByZero
unfolding binary_result int_wrap
by_zero = refl

-- uint8 255 and one more is 0; 200 as int8 is -56
up : changed (record { operator = Add; at = I32; to = U8; old = false }) 255 1 ≡ Into 0 0
unfolding changed binary_result int_wrap
up = refl

narrow : converted I8 200 ≡ minus 56
unfolding int_wrap
narrow = refl

-- 0 + -56
sum : binary_result Add I32 0 (minus 56) ≡ Is (minus 56)
unfolding binary_result int_wrap
sum = refl

-- 6 & 3, then compared with 2
both : binary_result BitAnd I32 6 3 ≡ Is 2
unfolding binary_result
both = refl

-- unary minus of an unsigned number wraps; -1 is below 0 only as a signed number
unsigned_minus : negated U32 1 ≡ 4294967295
unfolding negated
unsigned_minus = refl

turned : complemented I32 0 ≡ minus 1
unfolding complemented int_wrap
turned = refl

less : holds_of Less true (minus 1) 0 ≡ 1
unfolding holds_of
less = refl

more : holds_of Less false (minus 1) 0 ≡ 0
unfolding holds_of
more = refl

-- a shift's count is taken modulo the width
count : binary_result ShiftLeft I32 1 33 ≡ Is 2
unfolding binary_result int_wrap
count = refl

-- null is null, whatever the types of the handles; keys of two drivers are never one object
nulls : is_same (Script None) (Host 2 None) ≡ true
unfolding is_same is_null
nulls = refl

keys : is_same (Host 1 (Some 0)) (Host 2 (Some 0)) ≡ false
unfolding is_same is_null
keys = refl

one : is_same (Host 2 (Some 7)) (Host 2 (Some 7)) ≡ true
unfolding is_same is_null
one = refl

-- ---- limits

-- one function without parameters, and one class of one field, which takes two slots
abbrev setting : Environment
setting = record {
  name = λ m. [];
  host = λ m e. Some (record { driver = 0; role = CallingRole 0; member = false; params = []; result = Nothing; read_only = false });
  imported = λ m i. None;
  linked = λ m i. None;
  class = λ m c. Some (record { number = 0; rank = 0; fields = NumberField ∷ []; under = [] });
  method = λ m c s. None;
  slot = λ m s. None;
  params = λ g. None;
  nesting = 200;
}

-- no script object; of four events so many are listed or owed, and so many slots are allowed
abbrev limited : ℕ → ℕ → List Input → World
limited n slots is = record {
  objects = map.empty;
  hosts = λ d. map.empty;
  globals = [];
  events = [];
  reserved = n;
  spent = false;
  bounds = record { events = 4; slots = slots; objects = 1 };
  inputs = is;
}

-- where all events that are allowed are listed or owed, a host call faults with `Memory`, and nothing is asked for
no_event_left : (e : EntityNo) (is : List Input) → asked setting 0 e None [] Nothing (limited 4 0 is) ≡ Fails Memory (limited 4 0 is)
unfolding asked
no_event_left e is = refl

-- one event before
last_event : (e : EntityNo) (is : List Input) → asked setting 0 e None [] Nothing (limited 3 0 (Room true ∷ Said (Asking Void) ∷ is))
    ≡ Fine (Bits 0) (record (limited 4 0 is) { events = Called [] e 0 None [] (Asking Void) ∷ [] })
unfolding asked memory_step replied_by
last_event e is = refl

-- an object of two slots where one is allowed: `Memory`, and nothing is asked for
no_slots_left : (is : List Input) → perform setting 0 (Make 0) [] (limited 0 1 is) ≡ Fails Memory (limited 0 1 is)
unfolding perform
no_slots_left is =
    let w = limited 0 1 is in
    ap (λ n. cond (nat_le (n + 2) 1) (or_else (memory_step w) (Fails Memory) (λ u. made_from (class_at setting 0 0) u.inputs u)) (Fails Memory w)) empty_slots

-- where two are allowed it is made, under the number that is told
last_slots : (is : List Input) → perform setting 0 (Make 0) [] (limited 0 2 (Room true ∷ Fresh 7 ∷ is)) ≡ made_at (class_at setting 0 0) 7 is (limited 0 2 (Fresh 7 ∷ is))
unfolding perform memory_step number_for
last_slots is =
    let w = limited 0 2 (Room true ∷ Fresh 7 ∷ is) in
    ap (λ n. cond (nat_le (n + 2) 2) (made_from (class_at setting 0 0) (Fresh 7 ∷ is) (limited 0 2 (Fresh 7 ∷ is))) (Fails Memory w)) empty_slots
    ∙ ap (λ o. made_at (class_at setting 0 0) (number_at o 7 map.empty) is (limited 0 2 (Fresh 7 ∷ is))) (get-empty nat_cmp 7)

-- What the counter answers (docs/RATTLE_HOST.md).
use Rattle.std.specs.Prelude.{ℕ, ℤ, pos, ◌+ℤ◌, ◌≡◌, cond, nat_eq, List, [], ◌∷◌, Option, Some, None}
use Rattle.std.specs.Option.{option_map}
use Rattle.std.specs.Int.{w32, int_wrap}
use Rattle.std.specs.FinMap as map
use Rattle.ang_kinds.specs.declared.value.Value.{Value}
use Rattle.ang_kinds.specs.declared.value.Value.TheVariants.{Int, Uint}
use Rattle.ang_host.specs.declared.answer.Answer.TheVariants.{Void, Gave}
use Rattle.ang_host.specs.declared.answer.HostReply.{HostReply}
use Rattle.ang_host.specs.declared.answer.HostReply.TheVariants.{Asking}
use Rattle.ang_host.specs.State.{make, call, read, write, end}
use Rattle.ang_host.specs.Laws.{Fits}
use Rattle.ang_drivers.specs.declared.counter.Count.{Count}
use Rattle.ang_drivers.specs.declared.counter.CounterCall.{CounterCall}
use Rattle.ang_drivers.specs.declared.counter.CounterCall.TheVariants.{Bump, Tell, Added, Unknown}
use Rattle.ang_drivers.specs.Console.{code_of}
use Rattle.ang_drivers.specs.Objects.{Table, with_value, without}
use Rattle.ang_drivers.specs.Tables.{Moves, CoreFits, IsUnknown, MakesValue, int_32, one_int_32, property_0}

-- the numbers of a count: those of its value and of its step
abbrev pub count_code : Count → List ℕ
count_code c = code_of (Int c.value) ∷ code_of (Int c.step) ∷ []

-- a count of this value that goes up by 1
abbrev pub from_value : ℤ → Count
from_value z = record { value = z; step = pos 1 }

-- the step added to the value, wrapped to 32 bits
abbrev pub bumped : Count → Count
bumped c = record { value = int_wrap w32 (c.value +ℤ c.step); step = c.step }

-- the factory 0 takes nothing and counts from 0
abbrev pub from_nothing : List Value → Option Count
from_nothing [] = Some (from_value (pos 0))
from_nothing (v ∷ vs) = None

-- the count that a factory makes; the factory 1 takes the value
abbrev pub first_count : ℕ → List Value → Option Count
first_count f args = cond (nat_eq f 0) (from_nothing args) (cond (nat_eq f 1) (option_map from_value (one_int_32 args)) None)

-- the methods 0 and 1, and the function 2
abbrev pub call_without : ℕ → Option ℕ → CounterCall
call_without f (Some k) = cond (nat_eq f 0) (Bump k) (cond (nat_eq f 1) (Tell k) Unknown)
call_without f None = cond (nat_eq f 2) Added Unknown

-- what a call asks for: none takes arguments
abbrev pub counter_call : ℕ → Option ℕ → List Value → CounterCall
counter_call f o [] = call_without f o
counter_call f o (v ∷ vs) = Unknown

-- a call; the references that were added may be any number here
abbrev pub CallMoves : Table Count → CounterCall → HostReply → Table Count → Type 0
CallMoves x (Bump k) r y = (c : Count) × (map.get x.values k ≡ Some c) × (r ≡ Asking Void) × (y ≡ with_value x k (bumped c))
CallMoves x (Tell k) r y = (c : Count) × (map.get x.values k ≡ Some c) × (r ≡ Asking (Gave (Int c.value))) × (y ≡ x)
CallMoves x Added r y = (n : ℕ) × (r ≡ Asking (Gave (Uint n))) × (y ≡ x)
CallMoves x Unknown r y = IsUnknown x r y

-- the property of an object is its step
abbrev pub ReadMoves : Table Count → Option ℕ → HostReply → Table Count → Type 0
ReadMoves x None r y = IsUnknown x r y
ReadMoves x (Some k) r y = (c : Count) × (map.get x.values k ≡ Some c) × (r ≡ Asking (Gave (Int c.step))) × (y ≡ x)

abbrev pub WriteMoves : Table Count → Option ℕ → Option ℤ → HostReply → Table Count → Type 0
WriteMoves x None z r y = IsUnknown x r y
WriteMoves x (Some k) None r y = IsUnknown x r y
WriteMoves x (Some k) (Some z) r y = (c : Count) × (map.get x.values k ≡ Some c) × (r ≡ Asking Void) × (y ≡ with_value x k (record { value = c.value; step = z }))

-- how the counts move; a key that ends takes its count along
abbrev pub CounterMoves : Moves Count
CounterMoves x (make f args) r y = MakesValue x (first_count f args) r y
CounterMoves x (call f o args) r y = CallMoves x (counter_call f o args) r y
CounterMoves x (read f o) r y = ReadMoves x (property_0 f o) r y
CounterMoves x (write f o v) r y = WriteMoves x (property_0 f o) (int_32 v) r y
CounterMoves x (end k) r y = (r ≡ Asking Void) × (y ≡ without x k)

-- how the counter's core moves
abbrev pub CounterFits : Fits
CounterFits = CoreFits count_code CounterMoves

-- What stops the typing of a statement where the refusal lies in a box, and what results that may be so stopped say of it.
use Rattle.std.specs.Prelude.{◌≡◌, Result, Ok, Err}
use Rattle.ang_check_operators.specs.declared.refusal.TypingError.{TypingError}
use Rattle.ang_check_operators.specs.declared.refusal.TypingError.TheVariants as stop
use Rattle.ang_check_operators.specs.Refusals.{Typing}
use Rattle.ang_check_stmt.specs.declared.halt.Halt.{Halt}
use Rattle.ang_check_stmt.specs.declared.halt.Halt.TheVariants as halt

-- the refusal out of its box
abbrev pub stop_of : Halt → TypingError
stop_of halt.Memory = stop.Memory
stop_of (halt.Refused r) = stop.Refused r.value

-- What halts is what stopped, in a box, unless there was no memory for one.
abbrev pub IsBoxed : Halt → TypingError → Type 0
IsBoxed halt.Memory s = Unit {0}
IsBoxed (halt.Refused r) s = s ≡ stop.Refused r.value

abbrev pub Halts : {B : Type 0} → Halt → Typing B → Type 0
Halts halt.Memory typing = Unit {0}
Halts (halt.Refused r) typing = typing ≡ Err r.value

-- What a function returned, seen by view, is what was typed, unless memory ran out.
abbrev pub GivesOrHalts : {A B : Type 0} → (A → B) → Result A Halt → Typing B → Type 0
GivesOrHalts view (Ok a) typing = typing ≡ Ok (view a)
GivesOrHalts view (Err e) typing = Halts e typing

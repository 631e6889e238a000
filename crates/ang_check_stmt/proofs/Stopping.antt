-- What is stopped is halted for the same reason, and the other way round.
use Rattle.std.proofs.Common.{subst}
use Rattle.ang_check_operators.specs.declared.refusal.TypingError.{TypingError}
use Rattle.ang_check_operators.specs.Refusals.{Typing, Stops}
use Rattle.ang_check_stmt.specs.declared.halt.Halt.{Halt}
use Rattle.ang_check_stmt.specs.declared.halt.Halt.TheVariants as halt
use Rattle.ang_check_stmt.specs.Halts.{IsBoxed, Halts, stop_of}

pub halts_as_stopped : {B : Type 0} (h : Halt) (s : TypingError) (j : Typing B) → IsBoxed h s → Stops s j → Halts h j
halts_as_stopped halt.Memory s j b e = tt
halts_as_stopped (halt.Refused r) s j b e = subst (λ x. Stops x j) b e

pub stops_as_halted : {B : Type 0} (h : Halt) (j : Typing B) → Halts h j → Stops (stop_of h) j
stops_as_halted halt.Memory j e = tt
stops_as_halted (halt.Refused r) j e = e

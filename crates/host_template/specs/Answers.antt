-- What the driver owes, whatever it answers.
use Rattle.std.specs.Prelude.{ℕ, ◌≡◌, Bool, true, false, List, []}
use Rattle.ang_kinds.specs.declared.value.Value.TheVariants.{Int, Uint, Bool as BoolValue, Key}
use Rattle.ang_host.specs.declared.answer.Answer.{Answer}
use Rattle.ang_host.specs.declared.answer.Answer.TheVariants.{Void, Gave, Fault, Memory, Full}
use Rattle.ang_host.specs.Laws.{Fits}
use Rattle.ang_drivers.specs.Objects.{Ledger}
use Rattle.ang_drivers.specs.Tables.{Moves, CoreFits}

-- nothing is said of an object's value
abbrev pub untold : {T : Type 0} → T → List ℕ
untold v = []

-- nor of what is answered, and of what changes then
abbrev pub AnyMoves : {T : Type 0} → Moves T
AnyMoves x a r y = Unit {0}

-- so a driver whose objects have values of this type may answer anything
abbrev pub AnyFits : Type 0 → Fits
AnyFits T = CoreFits {T = T} untold AnyMoves

-- what an answer leaves as it is: only values change
pub record IsKept {T : Type 0} (s t : Ledger T) : Type 0 where
  pub counts : t.counts ≡ s.counts
  pub tally : t.tally ≡ s.tally

-- an answer that names no key, and is not `Full`
abbrev pub is_plain : Answer → Bool
is_plain Void = true
is_plain (Gave (Int z)) = true
is_plain (Gave (Uint n)) = true
is_plain (Gave (BoolValue b)) = true
is_plain (Gave (Key k)) = false
is_plain (Fault n) = true
is_plain Memory = true
is_plain Full = false

-- Numbers among the values of fields and globals.
use Rattle.std.specs.Prelude.{ℕ, ◌≡◌, Option, Some, None}
use Rattle.ang_meaning.specs.declared.slot.Slot.{Slot}
use Rattle.ang_meaning.specs.declared.slot.Slot.TheVariants.{Bits, Script, Host}

-- the number that a place holds, where it holds one
abbrev pub number_in : Slot → Option ℕ
number_in (Bits n) = Some n
number_in (Script k) = None
number_in (Host d k) = None

-- some number stands at a place, whichever value is asked for in its stead where there is no such
-- place
abbrev pub HasNumber : (Slot → Slot) → Type 0
HasNumber at = (n : ℕ) × ((other : Slot) → at other ≡ Bits n)

-- The budget of a command line (docs/FORMATS.md).
use Rattle.std.specs.Prelude.{ℕ, List, Option, Some, None, nat_le, ◌&&◌, if◌then◌else◌}
use Rattle.std.specs.Option.{option_and_then}
use Rattle.asrun_lines.specs.Fields.{decimal_of}

-- a number from 1 to the most
abbrev pub within : ℕ → ℕ → Option ℕ
within most n = if nat_le 1 n && nat_le n most then Some n else None

-- the budget that a line gives, or 1,000,000 where it gives none
unfoldable pub budget_given : Option (List ℕ) → Option ℕ
budget_given None = Some 1000000
budget_given (Some text) = option_and_then (within 2147483647) (decimal_of 10 text)

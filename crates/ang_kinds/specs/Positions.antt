-- Places within one section.
use Rattle.std.specs.Prelude.{ℕ, ◌-◌, nat_lt, if◌then◌else◌}
use Rattle.ang_kinds.specs.declared.place.Place.{Place}
use Rattle.ang_kinds.specs.declared.position.Position.{Position}

-- A number that counts from 1 as one that counts from 0, in 16 bits. No line and no column of a section is greater.
abbrev pub from_zero : ℕ → ℕ
from_zero n = if nat_lt (n - 1) 65536 then n - 1 else 65535

-- the line and the column of a place, without its section
abbrev pub position_of : Place → Position
position_of p = record { line = from_zero p.line; column = from_zero p.column }

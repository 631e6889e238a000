-- Bytes a second.
use Rattle.std.specs.Prelude.{ℕ, ◌*◌, ◌/◌, ◌^◌, ◌==◌, if◌then◌else◌}

-- The bytes that all turns over a text of this length go through in a second, where they take `nanos` nanoseconds; all of them
-- where the clock saw none.
abbrev pub speed : ℕ → ℕ → ℕ → ℕ
speed len turns nanos = if nanos == 0 then len * turns else len * turns * 10 ^ 9 / nanos

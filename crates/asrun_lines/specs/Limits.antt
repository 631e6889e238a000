-- What a host's limits are in a line (docs/FORMATS.md, "Profile").
use Rattle.std.specs.Prelude.{ℕ, ◌^◌, List, Option, Some, None, codes, if◌then◌else◌}
use Rattle.std.specs.Str.{bytes_eq}
use Rattle.asrun_lines.specs.Fields.{◌>>=◌, field_of, decimal_of, below}
use Rattle.asrun_lines.specs.declared.limits.LimitKind.{LimitKind}
use Rattle.asrun_lines.specs.declared.limits.LimitKind.TheVariants.{Events, Slots, Objects}
use Rattle.asrun_lines.specs.declared.limits.LimitLine.{LimitLine}

-- the word of each kind
unfoldable pub kind_of : List ℕ → Option LimitKind
kind_of word =
    if bytes_eq word (codes "events") then Some Events
    else (if bytes_eq word (codes "slots") then Some Slots
    else (if bytes_eq word (codes "objects") then Some Objects
    else None))

-- a number of 63 bits in 1 to 19 decimal digits
unfoldable pub most_of : List ℕ → Option ℕ
most_of text = decimal_of 19 text >>= below (2 ^ 63)

-- `KIND N`, after the word `limit`
unfoldable pub limit_of : List ℕ → Option LimitLine
limit_of text = do
  word ← field_of text
  kind ← kind_of word.0
  most ← most_of word.1
  Some (record { kind = kind; most = most })

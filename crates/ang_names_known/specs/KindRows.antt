-- Rows of numbers that lie together.
use Rattle.std.specs.Prelude.{ℕ, ◌≡◌, ◌+◌, ◌≤◌, List, length, map, take, drop, slice_get, Option, Some, option_map}
use Rattle.std.specs.Option.{option_flatten}
use Rattle.ang_names_known.specs.declared.kinds.Span.{Span}
use Rattle.ang_names_known.specs.Kinds.{Rows}

-- what stands at a span
abbrev pub at_span : List ℕ → Span → List ℕ
at_span numbers s = take s.count (drop s.start numbers)

abbrev pub rows_of : List ℕ → List (Option Span) → Rows
rows_of numbers spans = map (option_map (at_span numbers)) spans

-- the rows lie within the numbers of all
abbrev pub AreWithin : List ℕ → List (Option Span) → Type 0
AreWithin numbers spans = (n : ℕ) (s : Span) → slice_get spans n ≡ Some (Some s) → s.start + s.count ≤ length numbers

-- the row at a place, where there is one
abbrev pub row_at : Rows → ℕ → Option (List ℕ)
row_at rows n = option_flatten (slice_get rows n)

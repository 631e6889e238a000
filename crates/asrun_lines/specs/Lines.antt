-- The lines of a profile and of a session (docs/HOST.md, "The program").
use Rattle.std.specs.Prelude.{ℕ, ◌-◌, Bool, ◌||◌, List, [], ◌∷◌, length, take, Option, Some, None, unwrap_or, slice_index, ◌==◌, if◌then◌else◌}
use Rattle.std.specs.List.{onto_first}

-- The lines of a text, each with its LF; the last one may have none.
unfoldable pub lines_of : List ℕ → List (List ℕ)
lines_of [] = []
lines_of (b ∷ bs) = if b == 10 then (b ∷ []) ∷ lines_of bs else onto_first b (lines_of bs)

-- what stands before the last byte, where that is b
unfoldable pub before_last : ℕ → List ℕ → Option (List ℕ)
before_last b line =
    if length line == 0 then None
    else (if slice_index line (length line - 1) == b
    then Some (take (length line - 1) line)
    else None)

-- a line without its CR
abbrev pub without_return : List ℕ → List ℕ
without_return line = unwrap_or (before_last 13 line) line

-- A line as it is read outside section texts: without its LF, and without a CR before that.
abbrev pub shown_line : Option (List ℕ) → List ℕ → List ℕ
shown_line None line = line
shown_line (Some text) line = without_return text

unfoldable pub shown_of : List ℕ → List ℕ
shown_of line = shown_line (before_last 10 line) line

-- Empty lines and those that begin with `#` say nothing.
abbrev pub is_skipped : List ℕ → Bool
is_skipped line = length line == 0 || slice_index line 0 == 35

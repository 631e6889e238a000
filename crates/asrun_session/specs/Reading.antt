-- Reading a text whole (docs/HOST.md, "The program").
use Rattle.std.specs.Prelude.{◌≡◌, ◌<◌, ◌≤◌, ◌+◌, ℕ, List, length, drop, Option, Some, IfSome}
use Rattle.std.specs.Io.KnownBytes.{Consumes, IsAtEnd}
use Rattle.asrun_session.specs.declared.ending.IoFault.TheVariants as io
use Rattle.asrun_session.specs.declared.ending.SessionError.{SessionError}
use Rattle.asrun_session.specs.declared.ending.SessionError.TheVariants.{Fault}
use Rattle.asrun_session.specs.declared.reading.BoundedText.{BoundedText}
use Rattle.asrun_session.specs.declared.reading.BoundedText.TheVariants.{Whole, TooLong}

-- What was read: all that was left, if that is within the limit. Otherwise reading stopped one byte
-- above it.
abbrev pub WasRead : ℕ → Option (List ℕ) → Option (List ℕ) → BoundedText → Type 0
WasRead limit old new (Whole text) =
    Consumes old new text.items × IsAtEnd new × (length text.items ≤ limit)
WasRead limit old new TooLong =
    (taken : List ℕ) × Consumes old new taken × (length taken ≡ limit + 1)

-- The text is these bytes, or these are more than the limit.
abbrev pub IsTextOf : ℕ → BoundedText → List ℕ → Type 0
IsTextOf limit (Whole text) bytes = (text.items ≡ bytes) × (length bytes ≤ limit)
IsTextOf limit TooLong bytes = limit < length bytes

-- The text was read as far as reading goes: what is left is what stands after one byte above the
-- limit, and nothing of a text within it.
abbrev pub IsReadThrough : ℕ → Option (List ℕ) → Option (List ℕ) → Type 0
IsReadThrough limit old new = IfSome old (λ bytes. new ≡ Some (drop (limit + 1) bytes))

-- a text could not be read
abbrev pub unread : SessionError
unread = Fault io.Read

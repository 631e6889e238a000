-- The commands among the lines of a conversation (docs/FORMATS.md, "The conversation of asremote").
use Rattle.std.specs.Prelude.{ℕ, ◌+◌, ◌≡◌, ◌<◌, ◌≤◌, List, [], ◌∷◌, ◌++◌, length, Option, Some, None, if◌then◌else◌}
use Rattle.std.specs.Io.KnownBytes.{Consumes}
use Rattle.asrun_lines.specs.Lines.{lines_of, shown_of, is_skipped}
use Rattle.asrun_lines.specs.SessionLines.{session_line_of}
use Rattle.asrun_lines.specs.declared.session_lines.SessionLine.{SessionLine}
use Rattle.asrun_lines.specs.declared.session_lines.SessionLine.TheVariants as line
use Rattle.asremote.specs.declared.commands.Next.{Next}
use Rattle.asremote.specs.declared.commands.Next.TheVariants as next

-- how many lines of a section follow a line
abbrev pub section_lines : SessionLine → ℕ
section_lines (line.Module name mask) = 0
section_lines (line.Section name lines) = lines
section_lines (line.Mask name mask) = 0
section_lines (line.Build name) = 0
section_lines (line.Bind name index exporter decl) = 0
section_lines (line.Unbind name index) = 0
section_lines (line.Discard name) = 0
section_lines (line.Remove name) = 0
section_lines (line.Call name args decl) = 0
section_lines (line.Budget ticks) = 0

abbrev pub lines_told : Option SessionLine → ℕ
lines_told None = 0
lines_told (Some l) = section_lines l

unfoldable pub lines_behind : List ℕ → ℕ
lines_behind shown = if is_skipped shown then 0 else lines_told (session_line_of shown)

-- These bytes are these lines, and what follows them begins another.
abbrev pub AreLines : List ℕ → List (List ℕ) → Type 0
AreLines bytes ls = (rest : List ℕ) → lines_of (bytes ++ rest) ≡ ls ++ lines_of rest

-- the most bytes of a command, with its section
abbrev pub most_command : ℕ
most_command = 16777216

-- n lines were read and appended to a text, or, where the input ends, fewer
abbrev pub ReadsLines : ℕ → List ℕ → List ℕ → Option (List ℕ) → Option (List ℕ) → Next → Type 0
ReadsLines n before after old new next.Command =
    (bytes : List ℕ) × (ls : List (List ℕ)) × (after ≡ before ++ bytes) × Consumes old new bytes × AreLines bytes ls
    × (length ls ≡ n) × (length after ≤ most_command)
ReadsLines n before after old new next.Last =
    (bytes : List ℕ) × (after ≡ before ++ bytes) × Consumes old new bytes × (length (lines_of bytes) ≤ n) × (length after ≤ most_command)
ReadsLines n before after old new next.TooLong =
    (bytes : List ℕ) × Consumes old new bytes × (most_command < length before + length bytes)
ReadsLines n before after old new next.End = ⊥

-- A text is a command: a line, and those of its section, or, where the input ends, fewer.
pub record IsCommand (text : List ℕ) (line : List ℕ) (section : List (List ℕ)) : Type 0 where
  pub lines : lines_of text ≡ line ∷ section
  pub within : length section ≤ lines_behind (shown_of line)

-- a command was read
abbrev pub ReadsCommand : Option (List ℕ) → Option (List ℕ) → Next → List ℕ → Type 0
ReadsCommand old new next.Command text =
    (line : List ℕ) × (section : List (List ℕ)) × IsCommand text line section × AreLines text (line ∷ section) × Consumes old new text
    × (length text ≤ most_command)
ReadsCommand old new next.Last text =
    (line : List ℕ) × (section : List (List ℕ)) × IsCommand text line section × Consumes old new text × (length text ≤ most_command)
ReadsCommand old new next.TooLong text =
    (bytes : List ℕ) × Consumes old new bytes × (most_command < length bytes)
ReadsCommand old new next.End text = Consumes old new []

-- The lines of a session: what its commands say (docs/HOST.md, "The program").
use Rattle.std.specs.Prelude.{◌≡◌, ℕ, Bool, false, List, length, take, drop, position, nat_lt, Option, Some, None, Result, Ok, Err, codes, if◌then◌else◌}
use Rattle.std.specs.Char.{is_ascii_alphabetic}
use Rattle.std.specs.Option.{option_map}
use Rattle.std.specs.Str.{bytes_eq, str_eq_ignore_ascii_case}
use Rattle.asrun_lines.specs.Fields.{◌>>=◌, field_of, last_field_of, rest_of, decimal_of, number_of, mask_of}
use Rattle.asrun_lines.specs.Values.{arguments_of}
use Rattle.asrun_lines.specs.declared.session_lines.LineError.{LineError}
use Rattle.asrun_lines.specs.declared.session_lines.LineError.TheVariants as errors
use Rattle.asrun_lines.specs.declared.session_lines.SessionLine.{SessionLine}
use Rattle.asrun_lines.specs.declared.session_lines.SessionLine.TheVariants as line

-- A line is read as it is spelled, unless memory ran out.
abbrev pub Reads : {X : Type 0} → Result X LineError → Option X → Type 0
Reads (Ok x) spelled = spelled ≡ Some x
Reads (Err errors.BadLine) spelled = spelled ≡ None
Reads (Err errors.Memory) spelled = Unit {0}

-- `module NAME M`, after its first word
unfoldable pub module_of : List ℕ → Option SessionLine
module_of text = do
  name ← field_of text
  mask ← mask_of name.1
  Some (line.Module name.0 mask)

-- `mask NAME M`
unfoldable pub masked_of : List ℕ → Option SessionLine
masked_of text = do
  name ← field_of text
  mask ← mask_of name.1
  Some (line.Mask name.0 mask)

-- `section NAME N`
unfoldable pub section_of : List ℕ → Option SessionLine
section_of text = do
  name ← field_of text
  lines ← decimal_of 10 name.1
  Some (line.Section name.0 lines)

-- `build NAME`
unfoldable pub build_of : List ℕ → Option SessionLine
build_of text = do
  name ← last_field_of text
  Some (line.Build name)

-- `bind NAME INDEX EXPORTER DECL`
unfoldable pub bind_of : List ℕ → Option SessionLine
bind_of text = do
  name ← field_of text
  index ← field_of name.1
  number ← number_of index.0
  exporter ← field_of index.1
  decl ← rest_of exporter.1
  Some (line.Bind name.0 number exporter.0 decl)

-- `unbind NAME INDEX`
unfoldable pub unbind_of : List ℕ → Option SessionLine
unbind_of text = do
  name ← field_of text
  number ← number_of name.1
  Some (line.Unbind name.0 number)

-- `discard NAME`
unfoldable pub discard_of : List ℕ → Option SessionLine
discard_of text = do
  name ← last_field_of text
  Some (line.Discard name)

-- `remove NAME`
unfoldable pub remove_of : List ℕ → Option SessionLine
remove_of text = do
  name ← last_field_of text
  Some (line.Remove name)

-- `call NAME (V,V) DECL`
unfoldable pub call_of : List ℕ → Option SessionLine
call_of text = do
  name ← field_of text
  args ← field_of name.1
  values ← arguments_of args.0
  decl ← rest_of args.1
  Some (line.Call name.0 values decl)

-- `budget N`
unfoldable pub budget_of : List ℕ → Option SessionLine
budget_of text = option_map line.Budget (decimal_of 10 text)

-- one of these lines
unfoldable pub session_line_of : List ℕ → Option SessionLine
session_line_of text = do
  word ← field_of text
  if bytes_eq word.0 (codes "module") then module_of word.1
      else (if bytes_eq word.0 (codes "mask") then masked_of word.1
      else (if bytes_eq word.0 (codes "section") then section_of word.1
      else (if bytes_eq word.0 (codes "build") then build_of word.1
      else (if bytes_eq word.0 (codes "bind") then bind_of word.1
      else (if bytes_eq word.0 (codes "unbind") then unbind_of word.1
      else (if bytes_eq word.0 (codes "call") then call_of word.1
      else (if bytes_eq word.0 (codes "discard") then discard_of word.1
      else (if bytes_eq word.0 (codes "remove") then remove_of word.1
      else (if bytes_eq word.0 (codes "budget") then budget_of word.1 else None)))))))))

-- a text begins with `section`, in either case
unfoldable pub begins_section : List ℕ → Bool
begins_section text =
    if nat_lt (length text) 7 then false
    else str_eq_ignore_ascii_case (take 7 text) (codes "section")

abbrev pub is_header_at : Option ℕ → List ℕ → Bool
is_header_at None line = false
is_header_at (Some at) line = begins_section (drop at line)

-- The first letters of a line are `section`, in either case, whatever stands before them: so each line
-- that may have been meant for the head of a section is known, however it is spelled.
unfoldable pub is_header : List ℕ → Bool
is_header line = is_header_at (position is_ascii_alphabetic line) line

-- What the code makes of a session's lines, against what they say.
use Rattle.std.specs.Prelude.{◌≡◌, ◌≤◌, ℕ, List, length, drop, Option, Some, None, Result, Ok, Err}
use Rattle.asrun_lines.specs.Lines.{lines_of}
use Rattle.asrun_session.specs.Session.{Act}
use Rattle.asrun_session.specs.declared.action.Act.{Act as Made}
use Rattle.asrun_lines.specs.declared.session_lines.LineError.{LineError}
use Rattle.asrun_lines.specs.declared.session_lines.LineError.TheVariants.{BadLine, Memory}

-- An act is as stated, and the lines after its section follow it, unless memory ran out.
abbrev pub Gives : Result Made LineError → List (List ℕ) → Option Act → Type 0
Gives (Ok a) behind stated =
    (stated ≡ Some (record { action = a.action; lines = a.lines }))
    × (lines_of a.rest.now ≡ drop a.lines behind) × (a.lines ≤ length behind)
Gives (Err BadLine) behind stated = stated ≡ None
Gives (Err Memory) behind stated = Unit {0}

-- Writing a text (docs/HOST.md, "The program").
use Rattle.std.specs.Prelude.{ℕ, ◌≤◌, List, length, take, Option}
use Rattle.std.specs.Io.KnownBytes.{Appends}
use Rattle.asrun_session.specs.declared.ending.IoFault.TheVariants as io
use Rattle.asrun_session.specs.declared.ending.SessionError.{SessionError}
use Rattle.asrun_session.specs.declared.ending.SessionError.TheVariants.{Fault}

-- a front of the text was written
pub record HasFront (old new : Option (List ℕ)) (text : List ℕ) : Type 0 where
  pub count : ℕ
  pub within : count ≤ length text
  pub printed : Appends old new (take count text)

-- a text could not be written
abbrev pub unwritten : SessionError
unwritten = Fault io.Write

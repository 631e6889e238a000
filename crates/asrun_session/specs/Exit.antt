-- The exit status of a program that runs sessions (docs/FORMATS.md, "Exit status").
use Rattle.std.specs.Prelude.{ℕ, Ok, Err}
use Rattle.asrun_session.specs.declared.ending.Status.TheVariants.{AllOk, SomeRefused, BadInput, Memory}
use Rattle.asrun_session.specs.declared.exit.ProgramExit.{ProgramExit}
use Rattle.asrun_session.specs.declared.exit.ProgramExit.TheVariants.{Ran, Helped, BadCommandLine, CannotOpen, NoMemory}

-- the status of each way in which the program ends
abbrev pub exit_status : ProgramExit → ℕ
exit_status (Ran (Ok AllOk)) = 0
exit_status (Ran (Ok SomeRefused)) = 1
exit_status (Ran (Ok BadInput)) = 2
exit_status (Ran (Ok Memory)) = 3
exit_status (Ran (Err fault)) = 2
exit_status Helped = 0
exit_status BadCommandLine = 2
exit_status CannotOpen = 2
exit_status NoMemory = 3

-- What a run of the machine is told, and what it lists.
use Rattle.std.specs.Prelude.{ℕ, List}
use Rattle.ang_meaning.specs.declared.slot.Slot.{Slot}
use Rattle.ang_meaning.specs.declared.routine.Routine.{Routine}
use Rattle.ang_meaning.specs.World.{World}
use Rattle.ang_meaning.specs.Told.{GoesOn, Faults}
use Rattle.ang_meaning.specs.Environment.{Environment}
use Rattle.ang_code.specs.Machine.{Texts, Config, At, Over, Finished, Faulted, Stuck, steps, call_begins, initializer_begins}

-- A configuration to which a run has come from a world. The answers that it was told are those of the events that it listed, and nothing was refused, but
-- at a fault's end the last input alone, whose fault it then is.
abbrev pub ComesFrom : World → Config → Type 0
ComesFrom w (At f pc room s fr t w') = GoesOn w w'
ComesFrom w (Over (Finished v t w')) = GoesOn w w'
ComesFrom w (Over (Faulted x w')) = Faults x w w'
ComesFrom w (Over Stuck) = Unit {0}

-- each run of a command's call, as far as it has come
abbrev pub CallsComeFrom : Type 0
CallsComeFrom = (z : Environment) (code : Texts) (n budget : ℕ) (g : Routine) (vs : List Slot) (w : World) → ComesFrom w (steps z code n (call_begins z code budget g vs w))

-- and of an initializer
abbrev pub InitializersComeFrom : Type 0
InitializersComeFrom = (z : Environment) (code : Texts) (n t : ℕ) (g : Routine) (w : World) → ComesFrom w (steps z code n (initializer_begins z code t g w))

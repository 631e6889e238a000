-- How many globals the modules of a run have.
use Rattle.std.specs.Prelude.{◌≡◌, ℕ, List, length, map as list_map}
use Rattle.ang_meaning.specs.declared.slot.Slot.{Slot}
use Rattle.ang_meaning.specs.declared.routine.Routine.{Routine}
use Rattle.ang_meaning.specs.World.{World, with_inputs}
use Rattle.ang_meaning.specs.Environment.{Environment}
use Rattle.ang_code.specs.Machine.{Texts, Config, At, Over, Finished, Faulted, Stuck, steps, call_begins, initializer_begins}
use Rattle.ang_code.specs.Runs.{Completion, Runs}

-- by the number of a module, how many globals it has
abbrev pub globals_of_each : World → List ℕ
globals_of_each w = list_map length w.globals

-- in the world of a configuration the modules have these numbers of globals
abbrev pub HasSoMany : List ℕ → Config → Type 0
HasSoMany ns (At f pc room s fr t w) = globals_of_each w ≡ ns
HasSoMany ns (Over (Finished v t w)) = globals_of_each w ≡ ns
HasSoMany ns (Over (Faulted x w)) = globals_of_each w ≡ ns
HasSoMany ns (Over Stuck) = Unit {0}

-- whatever the run is told, and whatever its code is
abbrev pub StepsKeep : Type 0
StepsKeep = (ns : List ℕ) (z : Environment) (code : Texts) (n : ℕ) (c : Config) → HasSoMany ns c → HasSoMany ns (steps z code n c)

-- at the end of each whole run of a command's call, told the inputs that it takes
abbrev pub CallRunsKeep : Type 0
CallRunsKeep = (z : Environment) (code : Texts) (budget : ℕ) (g : Routine) (vs : List Slot) (w w' : World) (end : Completion)
    → Runs z code (λ is. call_begins z code budget g vs (with_inputs is w)) end w' → globals_of_each w' ≡ globals_of_each w

-- and of an initializer
abbrev pub InitializerRunsKeep : Type 0
InitializerRunsKeep = (z : Environment) (code : Texts) (t : ℕ) (g : Routine) (w w' : World) (end : Completion)
    → Runs z code (λ is. initializer_begins z code t g (with_inputs is w)) end w' → globals_of_each w' ≡ globals_of_each w

-- What a driver's reply gives, as the code answers it.
use Rattle.std.specs.Prelude.{ℕ, List, ◌∷◌, Some, Result, Ok, Err}
use Rattle.ang_kinds.specs.declared.fault.Fault.{Fault}
use Rattle.ang_kinds.specs.declared.fault.Fault.TheVariants.{Host as HostFault, NoObject, Memory, Tally}
use Rattle.ang_host.specs.declared.answer.Made.{Made}
use Rattle.ang_host.specs.declared.answer.Made.TheVariants.{Key as MadeKey, Nothing as MadeNothing, Fault as MadeFault, Memory as MadeMemory, Full as MadeFull}
use Rattle.ang_meaning.specs.declared.slot.Slot.{Slot}
use Rattle.ang_meaning.specs.declared.slot.Slot.TheVariants.{Host}

-- the result on top of other places; a fault has none
abbrev pub with_result : Result Slot Fault → List Slot → List Slot
with_result (Ok v) vs = v ∷ vs
with_result (Err f) vs = vs

-- what a making by driver d gives
abbrev pub made_as : ℕ → Made → Result Slot Fault
made_as d (MadeKey k) = Ok (Host d (Some k))
made_as d MadeNothing = Err NoObject
made_as d (MadeFault n) = Err (HostFault n)
made_as d MadeMemory = Err Memory
made_as d MadeFull = Err Tally

-- how many objects it makes
abbrev pub objects_made : Made → ℕ
objects_made (MadeKey k) = 1
objects_made MadeNothing = 0
objects_made (MadeFault n) = 0
objects_made MadeMemory = 0
objects_made MadeFull = 0

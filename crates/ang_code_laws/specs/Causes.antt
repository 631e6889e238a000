-- What the fault `Tally` of a run comes of.
use Rattle.std.specs.Prelude.{◌≡◌, ℕ, List, ◌++◌, Some}
use Rattle.ang_kinds.specs.declared.fault.Fault.TheVariants.{Tally}
use Rattle.ang_meaning.specs.declared.slot.Slot.{Slot}
use Rattle.ang_meaning.specs.declared.routine.Routine.{Routine}
use Rattle.ang_meaning.specs.World.{World, Input, with_inputs}
use Rattle.ang_meaning.specs.Told.{stopped_by}
use Rattle.ang_meaning.specs.Causes.{RefusesFullCount, TallyCause}
use Rattle.ang_meaning.specs.Environment.{Environment}
use Rattle.ang_code.specs.Machine.{Texts, Config, At, Over, Faulted, step, steps, call_begins, initializer_begins}
use Rattle.ang_code.specs.Runs.{Stops, Runs}

-- a place of a run where the count of a script object stands at its end, and one place more is refused
abbrev pub IsAtFullCount : Config → Type 0
IsAtFullCount (At f pc room s fr t w) = RefusesFullCount w
IsAtFullCount (Over o) = ⊥

-- The run stops with `Tally` at such a place: the last input that it used is that refusal, it comes there after some steps, told these inputs and some
-- further ones, and the next step is its last.
pub record StopsAtFullCount (z : Environment) (code : Texts) (from : List Input → Config) (used : List Input) : Type 0 where
  pub told : stopped_by used ≡ Some Tally
  pub count : ℕ
  pub further : List Input
  pub full : IsAtFullCount (steps z code count (from (used ++ further)))
  pub after : World
  pub stops : step z code (steps z code count (from (used ++ further))) ≡ Over (Faulted Tally after)

-- A run of a command's call that stops with `Tally` has a cause: a driver refused a reference, or answered `Full`, or a script object's count stood at its
-- end where the run stopped.
abbrev pub CallTalliesHaveCause : Type 0
CallTalliesHaveCause = (z : Environment) (code : Texts) (budget : ℕ) (g : Routine) (vs : List Slot) (w w' : World)
    → (run : Runs z code (λ is. call_begins z code budget g vs (with_inputs is w)) (Stops Tally) w')
    → TallyCause (StopsAtFullCount z code (λ is. call_begins z code budget g vs (with_inputs is w)) run.told.used) w w'

-- and so has one of an initializer
abbrev pub InitializerTalliesHaveCause : Type 0
InitializerTalliesHaveCause = (z : Environment) (code : Texts) (t : ℕ) (g : Routine) (w w' : World)
    → (run : Runs z code (λ is. initializer_begins z code t g (with_inputs is w)) (Stops Tally) w')
    → TallyCause (StopsAtFullCount z code (λ is. initializer_begins z code t g (with_inputs is w)) run.told.used) w w'

-- The code does what the bodies do.
use Rattle.std.specs.Prelude.{◌≡◌, ℕ, ◌+◌, ◌<◌, ◌^◌, List, [], length, Some}
use Rattle.ang_meaning.specs.declared.slot.Slot.{Slot}
use Rattle.ang_meaning.specs.declared.routine.Routine.{Routine}
use Rattle.ang_meaning.specs.declared.routine.Passing.{Passing}
use Rattle.ang_meaning.specs.World.{World, give_all}
use Rattle.ang_meaning.specs.Environment.{Environment}
use Rattle.ang_meaning.specs.Results.{Reply, Yields, Raises}
use Rattle.ang_core.specs.Meaning.{Bodies, called_with, initialized}
use Rattle.ang_code.specs.Machine.{Texts, Over, Outcome, Finished, Faulted, steps, call_begins, initializer_begins}
use Rattle.ang_gen.specs.Code.{body_code}
use Rattle.ang_gen.specs.Heights.{BelowBody}

-- the end that a reply is; nobody takes the `&out` values of a command's call, so they are given up
abbrev pub outcome_of : Reply → Outcome
outcome_of (Yields v outs t w) = Finished v t (give_all outs w)
outcome_of (Raises x w) = Faulted x w

-- each body's text is its code, with room for all that it puts on the stack, in a frame that is counted in 64 bits
pub record IsCode (z : Environment) (bodies : Bodies) (code : Texts) : Type 0 where
  pub text : (g : Routine) (ps : List Passing) → z.params g ≡ Some ps → code.text g ≡ body_code (length ps) (bodies g)
  pub room : (g : Routine) (ps : List Passing) → z.params g ≡ Some ps → BelowBody (length ps + code.height g) (length ps) (bodies g)
  pub counted : (g : Routine) (ps : List Passing) → z.params g ≡ Some ps → length ps + code.height g < 2 ^ 64

-- For every function, budget, arguments and world, and for every initializer, some number of steps leads exactly to the end that the body's meaning has.
pub record Behaves (z : Environment) (bodies : Bodies) (code : Texts) : Type 0 where
  pub calls : (budget : ℕ) (g : Routine) (ps : List Passing) (vs : List Slot) (w : World) → z.params g ≡ Some ps → length ps ≡ length vs →
      (n : ℕ) × (steps z code n (call_begins z code budget g vs w) ≡ Over (outcome_of (called_with z bodies budget g vs w)))
  pub initializers : (ticks : ℕ) (g : Routine) (w : World) → z.params g ≡ Some [] →
      (n : ℕ) × (steps z code n (initializer_begins z code ticks g w) ≡ Over (outcome_of (initialized z bodies ticks g w)))

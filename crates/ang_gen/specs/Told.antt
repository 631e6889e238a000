-- What the run of a body is told, and what it lists.
use Rattle.std.specs.Prelude.{◌≡◌, ℕ, List, [], length, Some}
use Rattle.ang_meaning.specs.declared.slot.Slot.{Slot}
use Rattle.ang_meaning.specs.declared.routine.Routine.{Routine}
use Rattle.ang_meaning.specs.declared.routine.Passing.{Passing}
use Rattle.ang_meaning.specs.World.{World}
use Rattle.ang_meaning.specs.Environment.{Environment}
use Rattle.ang_core.specs.Meaning.{Bodies, called_with, initialized}
use Rattle.ang_code.specs.Machine.{Over}
use Rattle.ang_code.specs.Told.{ComesFrom}
use Rattle.ang_gen.specs.BodyBehaves.{outcome_of}

-- For every function, budget, arguments and world, and for every initializer: the answers that the run takes are those of the events that it lists, and
-- nothing is refused to it but, at a fault's end, the last that it asks for.
pub record AreTold (z : Environment) (bodies : Bodies) : Type 0 where
  pub calls : (budget : ℕ) (g : Routine) (ps : List Passing) (vs : List Slot) (w : World) → z.params g ≡ Some ps → length ps ≡ length vs →
      ComesFrom w (Over (outcome_of (called_with z bodies budget g vs w)))
  pub initializers : (ticks : ℕ) (g : Routine) (w : World) → z.params g ≡ Some [] → ComesFrom w (Over (outcome_of (initialized z bodies ticks g w)))

-- A module's initializers while some of them are left.
use Rattle.std.specs.Prelude.{◌≡◌, ℕ, true, List, ◌++◌}
use Rattle.ang_meaning.specs.declared.routine.Routine.{Routine}
use Rattle.ang_meaning.specs.World.{World, Input, with_inputs}
use Rattle.ang_meaning.specs.Told.{has_room, answers_told, answers_listed}
use Rattle.ang_engine_modules.specs.Modules.{Module}
use Rattle.ang_engine_modules.specs.Executed.{initialized_in, initialization_of}

-- The initializers of module m have come to those that are left: told these inputs, with memory
-- each time, they go on as those, with the ticks that are left, from the world that there is now. Drivers
-- answered just what is listed.
pub record HaveComeTo (ms : List Module) (budget m : ℕ) (before : World) (gs : List Routine)
    (ticks : ℕ) (now : World) : Type 0 where
  pub used : List Input
  pub goes_on : (rest : List Input)
      → initialization_of ms budget m (with_inputs (used ++ rest) before)
      ≡ initialized_in ms gs ticks (with_inputs rest now)
  pub room : has_room used ≡ true
  pub answers : answers_listed now.events ≡ answers_listed before.events ++ answers_told used

-- What an operation on the world is told of its operands.
use Rattle.std.specs.Prelude.{List, ◌++◌}
use Rattle.ang_meaning.specs.declared.slot.Slot.{Slot}
use Rattle.ang_meaning.specs.World.{World}
use Rattle.ang_meaning.specs.Counting.{IsCounted}

-- they stand on top of what else the stack holds, and all counts are the numbers of places
pub record StandCounted (operands : List Slot) (w : World) : Type 0 where
  pub below : List Slot
  pub counted : IsCounted (operands ++ below) w

-- How a run ended, and what it was told.
use Rattle.std.specs.Prelude.{◌≡◌, ◌⊎◌, true, List, ◌++◌, Option, Some, Result, Ok, Err}
use Rattle.ang_kinds.specs.declared.fault.Fault.{Fault}
use Rattle.ang_kinds.specs.declared.primitive.Primitive.{Primitive}
use Rattle.ang_kinds.specs.declared.value.Value.{Value}
use Rattle.ang_meaning.specs.declared.slot.Slot.{Slot}
use Rattle.ang_meaning.specs.declared.slot.Slot.TheVariants.{Bits}
use Rattle.ang_meaning.specs.World.{Input, World, with_inputs, give, give_all}
use Rattle.ang_meaning.specs.Told.{has_room, stopped_by, answers_told, answers_listed}
use Rattle.ang_meaning.specs.Results.{Reply, Yields, Raises}
use Rattle.ang_code.specs.Values.{answer_of}

-- its value or its fault, and the world that it left
pub record Ended : Type 0 where
  pub result : Result Slot Fault
  pub world : World

-- Nothing is held after a command: nobody takes the `&out` values of its call, which are given up,
-- and then its value is.
abbrev pub end_of : Reply → Ended
end_of (Yields v outs t w) = record { result = Ok v; world = give v (give_all outs w) }
end_of (Raises f w) = record { result = Err f; world = w }

-- there was memory and room each time, or a fault is that of the last input, the only one that
-- refused
abbrev pub IsTold : Result Slot Fault → List Input → Type 0
IsTold (Ok v) used = has_room used ≡ true
IsTold (Err f) used = (has_room used ≡ true) ⊎ (stopped_by used ≡ Some f)

-- Told these inputs, and whatever further ones it leaves, a run leads from one world to the other
-- and ends with this result. Drivers answered just what its events list.
pub record Ends (go : World → Reply) (before : World) (result : Result Slot Fault)
    (after : World) : Type 0 where
  pub used : List Input
  pub ends : (rest : List Input)
      → end_of (go (with_inputs (used ++ rest) before))
      ≡ record { result = result; world = with_inputs rest after }
  pub told : IsTold result used
  pub answers : answers_listed after.events ≡ answers_listed before.events ++ answers_told used

-- A run ends so, and is answered by the type of its value.
pub record Answers (type : Option Primitive) (go : World → Reply) (before : World)
    (answer : Result (Option Value) Fault) (after : World) : Type 0 where
  pub result : Result Slot Fault
  pub ends : Ends go before result after
  pub answered : answer ≡ answer_of type result

-- the same of initializers, whose value is 0
abbrev pub completed : {U : Type 0} → Result U Fault → Result Slot Fault
completed (Ok u) = Ok (Bits 0)
completed (Err f) = Err f

-- What runs of a table's code are, whichever modules it holds.
use Rattle.std.specs.Prelude.{◌≡◌, ◌-◌, ℕ, List, [], length, Option, Result}
use Rattle.std.specs.List.{AllByRecursion}
use Rattle.ang_kinds.specs.declared.fault.Fault.{Fault}
use Rattle.ang_kinds.specs.declared.primitive.Primitive.{Primitive}
use Rattle.ang_kinds.specs.declared.value.Value.{Value}
use Rattle.ang_meaning.specs.declared.slot.Slot.{Slot}
use Rattle.ang_meaning.specs.World.{World}
use Rattle.ang_meaning.specs.Counting.{IsCounted}
use Rattle.ang_meaning.specs.Results.{Reply}
use Rattle.ang_code_laws.specs.Globals.{globals_of_each}
use Rattle.ang_vm_stack.specs.declared.table.Table.{Table}
use Rattle.ang_engine_modules.specs.Modules.{Module, module_at, result_at, TakesSoMany, IsAskedIn}
use Rattle.ang_engine_modules.specs.Executed.{call_of, initializers_of, initialization_of}
use Rattle.ang_engine_modules.specs.Ends.{Ends, Answers}
use Rattle.ang_engine_modules.specs.Loaded.{IsTableOf}
use Rattle.ang_engine_modules.specs.Numbers.{routines_at}

-- A run of these modules has ended as it means. It asked only what they may ask, nothing is held
-- after it but by globals and fields, and each module has as many globals as before it.
pub record HasEnded (ms : List Module) (go : World → Reply) (before : World)
    (result : Result Slot Fault) (after : World) : Type 0 where
  pub means : Ends go before result after
  pub asked :
      AllByRecursion (IsAskedIn ms) before.events → AllByRecursion (IsAskedIn ms) after.events
  pub counted : IsCounted [] after
  pub globals : globals_of_each after ≡ globals_of_each before

-- The same, and it was answered by the type of its value.
pub record HasAnswered (ms : List Module) (type : Option Primitive) (go : World → Reply)
    (before : World) (answer : Result (Option Value) Fault) (after : World) : Type 0 where
  pub means : Answers type go before answer after
  pub asked :
      AllByRecursion (IsAskedIn ms) before.events → AllByRecursion (IsAskedIn ms) after.events
  pub counted : IsCounted [] after
  pub globals : globals_of_each after ≡ globals_of_each before

-- A call of function n of module m was answered so, whichever modules the table holds.
abbrev pub HasCalled :
    Table → ℕ → ℕ → ℕ → List Slot → World → Result (Option Value) Fault → World → Type 0
HasCalled t budget m n args before answer after =
    (ms : List Module) → IsTableOf t ms → TakesSoMany ms m n (length args)
    → HasAnswered ms (result_at ms m n) (call_of ms budget m n args) before answer after

-- The initializers of module m, of the numbers from the first one to the end, have ended so.
abbrev pub HasBegun : Table → ℕ → ℕ → ℕ → ℕ → World → Result Slot Fault → World → Type 0
HasBegun t budget m first end before result after =
    (ms : List Module) → IsTableOf t ms
    → initializers_of m (module_at ms m).tree ≡ routines_at m first (end - first)
    → HasEnded ms (initialization_of ms budget m) before result after

use Rattle.std.proofs.Common.{◌≡◌, ◌++◌, drop, map as list_map}
use Rattle.ang_typed.specs.View.{view_function}
use Rattle.ang_lower.specs.Plain.{plain_body}
use Rattle.ang_lower.specs.Lowered.{lowered_function}
use Rattle.ang_lower.specs.Positions as places
use Rattle.ang_lower.proofs.bodies.add_functions.Given as goal

abbrev pub invariant-loop-function : goal.invariant-loop-function
invariant-loop-function l = record {
  so_far : list_map plain_body l.bodies.items ++ list_map lowered_function (list_map view_function (drop l.function-index l.functions))
      ≡ list_map plain_body l.initial.bodies.items ++ list_map lowered_function (list_map view_function l.functions);
  positions : places.listed l.bodies.items ++ list_map places.of_function (list_map view_function (drop l.function-index l.functions))
      ≡ places.listed l.initial.bodies.items ++ list_map places.of_function (list_map view_function l.functions);
}

use Rattle.std.proofs.Common.{◌≡◌, ◌++◌, drop, map as list_map}
use Rattle.std.specs.List.{flat_map}
use Rattle.ang_typed.specs.View.{view_global}
use Rattle.ang_lower.specs.Plain.{plain_body}
use Rattle.ang_lower.specs.Lowered.{lowered_globals}
use Rattle.ang_lower.specs.Positions as places
use Rattle.ang_lower.proofs.bodies.add_globals.Given as goal

abbrev pub invariant-loop-number : goal.invariant-loop-number
invariant-loop-number l = record {
  so_far : list_map plain_body l.bodies.items ++ lowered_globals l.number (list_map view_global (drop l.number l.globals))
      ≡ list_map plain_body l.initial.bodies.items ++ lowered_globals 0 (list_map view_global l.globals);
  positions : places.listed l.bodies.items ++ flat_map places.of_global (list_map view_global (drop l.number l.globals))
      ≡ places.listed l.initial.bodies.items ++ flat_map places.of_global (list_map view_global l.globals);
}

use Rattle.std.proofs.Common.{◌≡◌, ◌++◌, drop, map as list_map}
use Rattle.ang_check.specs.Judging.{field_type}
use Rattle.ang_check.proofs.program.own_types.Given as goal

abbrev pub invariant-loop-field : goal.invariant-loop-field
invariant-loop-field l = list_map field_type l.fields ≡ l.types.items ++ list_map field_type (drop l.field-index l.fields)

use Rattle.std.proofs.Common.{◌≡◌, ◌++◌, drop, map as list_map}
use Rattle.ang_names_listed.specs.Declarations.{field_as}
use Rattle.ang_names_listed.proofs.members.list_fields.Given as goal

abbrev pub invariant-loop-field : goal.invariant-loop-field
invariant-loop-field l =
    l.initial.found.items ++ list_map (field_as l.access l.written.declared_type) l.written.names.items
    ≡ l.found.items ++ list_map (field_as l.access l.written.declared_type) (drop l.field-index l.written.names.items)

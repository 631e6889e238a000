use Rattle.std.proofs.Common.{◌≡◌, ◌++◌, drop, map as list_map}
use Rattle.ang_tree.specs.View.{view_method}
use Rattle.ang_names_listed.specs.Declarations.{member_of}
use Rattle.ang_names_listed.proofs.members.interface_members.Given as goal

abbrev pub invariant-loop-method : goal.invariant-loop-method
invariant-loop-method l =
    list_map member_of (list_map view_method l.written)
    ≡ l.found.items ++ list_map member_of (list_map view_method (drop l.method-index l.written))

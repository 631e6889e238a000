use Rattle.std.proofs.Common.{◌≡◌, ◌++◌, drop, map as list_map}
use Rattle.std.specs.List.{flat_map}
use Rattle.ang_tree.specs.View.{view_member}
use Rattle.ang_names_listed.specs.Declarations.{members_by}
use Rattle.ang_names_listed.proofs.members.class_members.Given as goal

abbrev pub invariant-loop-member : goal.invariant-loop-member
invariant-loop-member l =
    flat_map members_by (list_map view_member l.written)
    ≡ l.found.items ++ flat_map members_by (list_map view_member (drop l.member-index l.written))

use Rattle.std.proofs.Common.{◌≡◌, drop, map as list_map}
use Rattle.std.specs.List.{list_any}
use Rattle.ang_tree.specs.View.{view_member}
use Rattle.ang_check.specs.Bodies.{is_constructor_tree}
use Rattle.ang_check.proofs.members.has_constructor.Given as goal

abbrev pub invariant-loop-member : goal.invariant-loop-member
invariant-loop-member l =
    list_any is_constructor_tree (list_map view_member l.members)
    ≡ list_any is_constructor_tree (list_map view_member (drop l.member-index l.members))

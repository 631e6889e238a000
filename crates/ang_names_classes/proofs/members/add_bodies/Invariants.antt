use Rattle.std.proofs.Common.{◌≡◌, ◌+◌, length, take}
use Rattle.ang_names_classes.specs.Resolved.{with_bodies}
use Rattle.ang_names_classes.proofs.members.add_bodies.Given as goal

abbrev pub invariant-loop-member : goal.invariant-loop-member
invariant-loop-member l =
    length l.bodies.items ≡ length l.initial.bodies.items + length (with_bodies l.family.shape.is_class (take l.member-index l.members))

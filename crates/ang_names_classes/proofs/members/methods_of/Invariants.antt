use Rattle.std.proofs.Common.{◌≡◌, [], length, take}
use Rattle.ang_names_known.specs.Items.{each_after}
use Rattle.ang_names_classes.specs.Resolved.{methods_after, with_bodies}
use Rattle.ang_names_classes.proofs.members.methods_of.Given as goal

abbrev pub invariant-loop-member : goal.invariant-loop-member
invariant-loop-member l =
    (l.found.items ≡ each_after (methods_after l.space l.signatures l.family (length l.before)) [] (take l.member-index l.members))
    × (length l.bodies.items ≡ length (with_bodies l.family.shape.is_class (take l.member-index l.members)))

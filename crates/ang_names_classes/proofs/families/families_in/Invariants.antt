use Rattle.std.proofs.Common.{◌≡◌, ◌+◌, [], length, take}
use Rattle.std.specs.List.{flat_map}
use Rattle.ang_names_known.specs.Items.{each_after}
use Rattle.ang_names_classes.specs.Headings.{signatures_of}
use Rattle.ang_names_classes.specs.Resolved.{body_members, families_after}
use Rattle.ang_names_classes.proofs.families.families_in.Given as goal

abbrev pub invariant-loop-number : goal.invariant-loop-number
invariant-loop-number l =
    (l.found.items ≡ each_after (families_after l.space l.families (signatures_of l.space l.families) (length l.initial.bodies.items)) [] (take l.number l.families))
    × (length l.bodies.items ≡ length l.initial.bodies.items + length (flat_map body_members (take l.number l.families)))

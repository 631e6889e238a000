use Rattle.std.proofs.Common.{◌≡◌, [], length, take}
use Rattle.std.specs.List.{filter_map}
use Rattle.ang_names_known.specs.Items.{each_after}
use Rattle.ang_names_listed.specs.declared.listed.ListedMember.{ListedMember}
use Rattle.ang_names_classes.specs.Hierarchy.{field_type}
use Rattle.ang_names_classes.specs.Resolved.{fields_after}
use Rattle.ang_names_classes.proofs.members.fields_of.Given as goal

abbrev pub invariant-loop-member : goal.invariant-loop-member
invariant-loop-member l =
    (l.found.items ≡ each_after (fields_after l.space l.family (length l.inherited)) [] (take l.member-index l.members))
    × (length l.found.items ≡ length (filter_map (λ (m : ListedMember). field_type l.space l.family m.kind) (take l.member-index l.members)))

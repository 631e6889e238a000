use Rattle.std.proofs.Common.{◌≡◌, ◌++◌, drop}
use Rattle.std.specs.List.{filter_map}
use Rattle.ang_names_listed.specs.declared.listed.ListedMember.{ListedMember}
use Rattle.ang_names_classes.specs.Hierarchy.{field_type}
use Rattle.ang_names_classes.specs.Tables.{held_in}
use Rattle.ang_names_classes.proofs.held.held_places.Given as goal

abbrev pub invariant-loop-member : goal.invariant-loop-member
invariant-loop-member l =
    filter_map (λ (m : ListedMember). held_in (field_type l.space l.family m.kind)) l.members
    ≡ l.places.items ++ filter_map (λ (m : ListedMember). held_in (field_type l.space l.family m.kind)) (drop l.member-index l.members)

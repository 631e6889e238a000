use Rattle.std.proofs.Common.{◌≡◌, ◌++◌, drop}
use Rattle.std.specs.List.{filter_map}
use Rattle.ang_names_listed.specs.declared.listed.ListedMember.{ListedMember}
use Rattle.ang_names_classes.specs.Headings.{signature_by}
use Rattle.ang_names_classes.proofs.signatures.push_signatures.Given as goal

abbrev pub invariant-loop-member : goal.invariant-loop-member
invariant-loop-member l =
    l.initial.found.items ++ filter_map (λ (m : ListedMember). signature_by l.space l.family m m.kind) l.members
    ≡ l.found.items ++ filter_map (λ (m : ListedMember). signature_by l.space l.family m m.kind) (drop l.member-index l.members)

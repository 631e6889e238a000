use Rattle.std.proofs.Common.{◌≡◌, ◌++◌, drop}
use Rattle.std.specs.List.{flat_map}
use Rattle.ang_names_classes.specs.Headings.{signatures_in}
use Rattle.ang_names_classes.proofs.signatures.all_signatures.Given as goal

abbrev pub invariant-loop-family : goal.invariant-loop-family
invariant-loop-family l =
    flat_map (signatures_in l.space) l.families ≡ l.found.items ++ flat_map (signatures_in l.space) (drop l.family-index l.families)

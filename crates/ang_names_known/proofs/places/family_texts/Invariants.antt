use Rattle.std.proofs.Common.{◌≡◌, take}
use Rattle.ang_names_known.specs.NameIndex.{families_names}
use Rattle.ang_names_known.proofs.places.family_texts.Given as goal

abbrev pub invariant-loop-family : goal.invariant-loop-family
invariant-loop-family l = l.texts.items ≡ families_names (take l.family-index l.families)

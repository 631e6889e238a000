use Rattle.std.proofs.Common.{◌≡◌, ◌++◌, drop, map as list_map}
use Rattle.ang_names_known.specs.Spaces.{family_type}
use Rattle.ang_names_known.proofs.lineage.types_of.Given as goal

abbrev pub invariant-loop-family : goal.invariant-loop-family
invariant-loop-family l = list_map family_type l.families ≡ l.types.items ++ list_map family_type (drop l.family-index l.families)

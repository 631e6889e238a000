use Rattle.std.proofs.Common.{◌≡◌, ◌++◌, drop, [], map as list_map}
use Rattle.std.specs.Prelude.{replicate}
use Rattle.ang_names_known.specs.declared.names.Family.{Family}
use Rattle.ang_names_known.specs.Spaces.{family_type, first_family}
use Rattle.ang_names_known.proofs.lineage.lineage_of.Given as goal

abbrev pub invariant-loop-family : goal.invariant-loop-family
invariant-loop-family l =
    replicate first_family [] ++ list_map (λ (f : Family). list_map family_type f.above) l.all
    ≡ list_map (λ v. v.items) l.above.items ++ list_map (λ (f : Family). list_map family_type f.above) (drop l.family-index l.all)

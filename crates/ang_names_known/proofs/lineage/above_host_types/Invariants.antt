use Rattle.std.proofs.Common.{◌≡◌, [], map as list_map}
use Rattle.std.specs.Prelude.{replicate}
use Rattle.ang_names_known.proofs.lineage.above_host_types.Given as goal

abbrev pub invariant-loop-number : goal.invariant-loop-number
invariant-loop-number l = list_map (λ v. v.items) l.above.items ≡ replicate l._number []

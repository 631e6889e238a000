use Rattle.std.proofs.Common.{◌≡◌, ◌++◌, length}
use Rattle.std.specs.Option.{option_map}
use Rattle.std.specs.List.{slice_split}
use Rattle.asrun_lines.specs.Values.{values_of, is_comma}
use Rattle.asrun_lines.proofs.values.values.Given as goal

abbrev pub invariant-loop-first : goal.invariant-loop-first
invariant-loop-first l = option_map (λ vs. l.values.items ++ vs) (values_of (slice_split is_comma l.text)) ≡ values_of (slice_split is_comma l.initial.text)

abbrev pub decreases-loop-first : goal.decreases-loop-first
decreases-loop-first l = length l.text

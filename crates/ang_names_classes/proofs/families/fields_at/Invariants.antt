use Rattle.std.proofs.Common.{◌≡◌, ◌+◌, length, drop}
use Rattle.ang_names_known.specs.Spaces.{Space}
use Rattle.ang_names_classes.specs.Hierarchy.{field_types_at}
use Rattle.ang_names_classes.proofs.families.fields_at.Given as goal

abbrev pub invariant-loop-place : goal.invariant-loop-place
invariant-loop-place l =
    (E : Space) → length (field_types_at E l.families l.places) ≡ length l.fields.items + length (field_types_at E l.families (drop l.place-index l.places))

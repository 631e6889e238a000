use Rattle.std.proofs.Common.{◌≡◌, ◌++◌, drop}
use Rattle.std.specs.Prelude.{filter}
use Rattle.ang_names_classes.specs.Hierarchy.{is_class_at}
use Rattle.ang_names_classes.proofs.tables.classes_among.Given as goal

abbrev pub invariant-loop-place : goal.invariant-loop-place
invariant-loop-place l = filter (is_class_at l.families) l.places ≡ l.found.items ++ filter (is_class_at l.families) (drop l.place-index l.places)

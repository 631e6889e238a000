use Rattle.std.proofs.Common.{◌≡◌, ◌++◌, drop}
use Rattle.ang_names_classes.proofs.families.as_bytes.Given as goal

abbrev pub invariant-loop-place : goal.invariant-loop-place
invariant-loop-place l = l.places ≡ l.bytes.items ++ drop l.place-index l.places

use Rattle.std.proofs.Common.{◌≡◌, ℕ, false}
use Rattle.ang_check_added.specs.Sets.{in_kind, sets_in}
use Rattle.ang_check_added.proofs.kind_sets.no_places.Given as goal

abbrev pub invariant-loop-place : goal.invariant-loop-place
invariant-loop-place l = (p k n : ℕ) → in_kind (sets_in l.all.items p) k n ≡ false

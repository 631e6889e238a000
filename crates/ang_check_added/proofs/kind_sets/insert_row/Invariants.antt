use Rattle.std.specs.Prelude.{◌==◌, ◌||◌, ◌&&◌, nat_lt, slice_get}
use Rattle.std.proofs.Common.{◌≡◌, ℕ}
use Rattle.ang_check_added.specs.Sets.{in_kind, is_number, sets_in}
use Rattle.ang_check_added.proofs.kind_sets.insert_row.Given as goal

abbrev pub invariant-loop-place : goal.invariant-loop-place
invariant-loop-place l =
    (p k n : ℕ) → in_kind (sets_in l.places.items p) k n
    ≡ (in_kind (sets_in l.initial.places.items p) k n || (nat_lt p l.place && (is_number (slice_get l.row p) k && (l.number == n))))

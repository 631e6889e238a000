use Rattle.std.specs.Prelude.{◌&&◌, nat_lt, slice_get}
use Rattle.std.proofs.Common.{◌≡◌, ℕ}
use Rattle.ang_names_known.specs.KindRows.{row_at}
use Rattle.ang_check_added.specs.Sets.{has_count, in_kind, in_set, is_number, kind_at, sets_in}
use Rattle.ang_check_added.proofs.kind_sets.sets_of_all.Given as goal

abbrev pub invariant-loop-number : goal.invariant-loop-number
invariant-loop-number l =
    record {
      counts : (c n : ℕ) → in_set (slice_get l.sets.counts.items c) n ≡ (nat_lt n l.number && has_count (row_at l.rows n) c);
      places : (p k n : ℕ) → in_kind (sets_in l.sets.places.items p) k n ≡ (nat_lt n l.number && is_number (kind_at (row_at l.rows n) p) k);
    }

use Rattle.std.specs.Prelude.{false, ◌==◌, ◌||◌, ◌&&◌, slice_get}
use Rattle.std.specs.Option.{option_flatten}
use Rattle.std.proofs.Common.{◌≤◌, length, ap, ◌∙◌, arith}
use Rattle.std.proofs.lemmas.Option.{slice_get_past}
use Rattle.ang_names_known.specs.KindRows.{row_at}
use Rattle.ang_check_added.specs.Sets.{has_count, in_kind, in_set, is_number, kind_at, sets_in}
use Rattle.ang_check_added.proofs.SetLaws.{all_below, further}
use Rattle.ang_check_added.proofs.kind_sets.sets_of_all.Goals as goal

pub loop-number-preserved : goal.loop-number-preserved
loop-number-preserved c =
    let l = c.loop-number in
    let rows = c.args.rows.now in
    let new = c.insert_entry.new.sets in
    let here = c.row.ensures.exact in
    record {
      counts = λ k n.
          further false (in_set (slice_get l.sets.counts.items k) n) (in_set (slice_get new.counts.items k) n) n l.number
          (has_count (row_at rows n) k) (has_count (row_at rows l.number) k) (l.invariant.counts k n)
          (c.insert_entry.ensures.counts c.if-not-insert_entry.false k n
          ∙ ap (λ r. in_set (slice_get l.sets.counts.items k) n || ((l.number == n) && has_count r k)) here)
          (λ e. ap (λ j. has_count (row_at rows j) k) e);
      places = λ p k n.
          further false (in_kind (sets_in l.sets.places.items p) k n) (in_kind (sets_in new.places.items p) k n) n l.number
          (is_number (kind_at (row_at rows n) p) k) (is_number (kind_at (row_at rows l.number) p) k) (l.invariant.places p k n)
          (c.insert_entry.ensures.places c.if-not-insert_entry.false p k n
          ∙ ap (λ r. in_kind (sets_in l.sets.places.items p) k n || ((l.number == n) && is_number (kind_at r p) k)) here)
          (λ e. ap (λ j. is_number (kind_at (row_at rows j) p) k) e);
    }

pub returns : goal.returns
returns c =
    let l = c.loop-number in
    let rows = c.args.rows.now in
    let over : length rows ≤ l.number = omega arith in
    record {
      sets =
          record {
            counts = λ k n.
                l.invariant.counts k n
                ∙ all_below false (has_count (row_at rows n) k) n l.number
                (λ le. ap (λ o. has_count (option_flatten o) k) (slice_get_past rows n (omega (arith, over, le))));
            places = λ p k n.
                l.invariant.places p k n
                ∙ all_below false (is_number (kind_at (row_at rows n) p) k) n l.number
                (λ le. ap (λ o. is_number (kind_at (option_flatten o) p) k) (slice_get_past rows n (omega (arith, over, le))));
          };
    }

use Rattle.std.specs.Prelude.{ℕ, false, ◌≡◌, ◌<◌, ◌≤◌, ◌||◌, length, slice_index_or}
use Rattle.std.proofs.Common.{rules}
use Rattle.ang_names_graph.specs.Tables.{edges_of}
use Rattle.ang_names_graph.proofs.Begun.{joined_start, joined_more, joined_end}
use Rattle.ang_names_graph.proofs.Rings.{written_back}
use Rattle.ang_names_graph.proofs.making.joined_rows.Goals as goal

pub loop-place-init : goal.loop-place-init
loop-place-init c = rw c.in_ok-row.ensures.exact (joined_start c.args.marks.now c.args.n)

pub loop-place-preserved : goal.loop-place-preserved
loop-place-preserved c =
    let counted : c.loop-place.row.len ≡ length c.loop-place.row.items = search rules in
    let size : length c.join_row.new.row ≡ c.args.n = c.join_row.ensures.size in
    let put : (j : ℕ) → j < c.args.n → slice_index_or c.join_row.new.row j false
    ≡ (slice_index_or c.loop-place.row.items j false || edges_of c.args.marks.now c.args.n (slice_index_or c.args.places.now c.loop-place.place-index 0) j)
    = search rules in
    rw (written_back c.args.n c.loop-place.row.len c.join_row.new.row c.loop-place.row.items size c.loop-place.invariant.size counted)
    (joined_more c.args.marks.now c.args.n c.loop-place.place-index c.args.places.now c.loop-place.row.items c.join_row.new.row
    c.loop-place.invariant c.loop-place-test.true size put)

pub returns : goal.returns
returns c =
    let le : length c.args.places.now ≤ c.loop-place.place-index = search rules in
    record {
      size = c.loop-place.invariant.size;
      exact = joined_end c.args.marks.now c.args.n c.loop-place.place-index c.args.places.now c.loop-place.row.items le c.loop-place.invariant;
    }

use Rattle.std.specs.Prelude.{ℕ, List, Bool, true, false, ◌≡◌, ◌≤◌, ◌<◌, ◌+◌, ◌++◌, ◌||◌, drop, length, replicate, slice_index_or, slice_set}
use Rattle.std.proofs.Common.{rules, arith, ap, refl, sym, length-append, ◌∙◌}
use Rattle.std.proofs.lemmas.List.{drop_all, length-set, length-replicate}
use Rattle.ang_names_graph.specs.Graphs.{numbers_below}
use Rattle.ang_names_graph.specs.Tables.{is_next, is_reached}
use Rattle.ang_names_graph.proofs.Rings.{mark_alone, ring_pushed, round_start, round_next, round_end, round_stop, written_back}
use Rattle.ang_names_graph.proofs.orders.order_of.Goals as goal

pub loop-distance-init : goal.loop-distance-init
loop-distance-init c =
    rw (c.in_ok-near.ensures.exact, c.in_ok-push.ensures.items, c.new-places.ensures.items) (
      length-set (replicate c.args.n false) c.args.i true ∙ length-replicate c.args.n false,
      omega arith,
      λ e s. round_start e c.args.n c.args.i (slice_set (replicate c.args.n false) c.args.i true) (λ j lt. mark_alone c.args.n c.args.i j c.requires.there lt),
    )

pub loop-distance-preserved : goal.loop-distance-preserved
loop-distance-preserved c =
    let l = c.loop-distance in
    let edges : List Bool = c.args.edges.now in
    let n : ℕ = c.args.n in
    let ring : List ℕ = drop l.first l.places.items in
    let next : List ℕ = numbers_below (is_next edges n l.near.items ring) n in
    let counted : l.near.len ≡ length l.near.items = search rules in
    let end : c.len-end.result ≡ length l.places.items = search rules in
    let size : length c.push_ring.new.near ≡ n = c.in_ok-push_ring.ensures.size in
    let pushed : c.push_ring.new.places.items ≡ l.places.items ++ next = search rules in
    let marked : (j : ℕ) → j < n → slice_index_or c.push_ring.new.near j false ≡ (slice_index_or l.near.items j false || is_reached edges n ring j) = search rules in
    let more : length c.push_ring.new.places.items ≡ length l.places.items + length next = ap length pushed ∙ length-append l.places.items next in
    rw (written_back n l.near.len c.push_ring.new.near l.near.items size l.invariant.0 counted) (
      size,
      omega (arith, end, more),
      λ e s.
          ring_pushed e n c.args.i (l._distance + 1) c.push_ring.new.near l.places.items next c.push_ring.new.places.items c.len-end.result
          (round_next edges e n c.args.i l._distance l.near.items c.push_ring.new.near ring next l.places.items s c.requires.there (l.invariant.2 e s) refl marked) end pushed,
    )

pub returns : goal.returns
returns c =
    let l = c.loop-distance in
    let e : l._distance ≡ c.args.n = search rules in
    record { exact = λ f s. round_end f c.args.n c.args.i l._distance l.near.items (drop l.first l.places.items) l.places.items e (l.invariant.2 f s) }

pub returns-then-first-end : goal.returns-then-first-end
returns-then-first-end c =
    let l = c.loop-distance in
    let end : c.len-end.result ≡ length l.places.items = search rules in
    let past : length l.places.items ≤ l.first = omega (arith, end, c.if-first-end.true) in
    let within : l._distance ≤ c.args.n = omega (arith, c.loop-distance-test.true) in
    record {
      exact = λ e s. round_stop e c.args.n c.args.i l._distance l.near.items (drop l.first l.places.items) l.places.items
          (drop_all l.first l.places.items past) within (l.invariant.2 e s);
    }

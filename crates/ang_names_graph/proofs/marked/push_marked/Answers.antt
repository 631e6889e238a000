use Rattle.std.specs.Prelude.{ℕ, List, Bool, false, length, ◌≡◌, ◌<◌, ◌*◌, ◌+◌, ◌-◌, ◌/◌, ◌||◌, ◌++◌, slice_index_or}
use Rattle.std.proofs.Common.{arith, subst, sym}
use Rattle.std.proofs.lemmas.Result.{on_ok_weaker}
use Rattle.ang_names_graph.specs.Graphs.{numbers_below}
use Rattle.ang_names_graph.specs.Marks.{IsPart, is_new}
use Rattle.ang_names_graph.proofs.marked.push_marked.Goals as goal

-- going on from the last block, all of the row is gone through
whole : (row near was : List Bool) (places front : List ℕ) (block start count : ℕ) (new : List Bool) (more : List ℕ) → start ≡ block * 16 → start + count ≡ length row
    → IsPart row was front (block * 16) near places → ((w : List Bool) (f : List ℕ) → IsPart row w f start near places → IsPart row w f (start + count) new more)
    → IsPart row was front (length row) new more
whole row near was places front block start count new more begins ends p further =
    let here : IsPart row was front start near places = subst (λ j. IsPart row was front j near places) (sym begins) p in
    subst (λ j. IsPart row was front j new more) ends (further was front here)

pub returns-clause-pushed : goal.returns-clause-pushed
returns-clause-pushed c =
    let row : List Bool = c.args.row.now in
    let l = c.loop-block in
    let blocks : ℕ = length row / 16 in
    let count : ℕ = length row - blocks * 16 in
    let begins : blocks * 16 ≡ l.block * 16 = omega arith in
    let ends : blocks * 16 + count ≡ length row = omega arith in
    on_ok_weaker c.push_from.result
    (λ (f : (w : List Bool) (g : List ℕ) → IsPart row w g (blocks * 16) l.near l.places.items → IsPart row w g (blocks * 16 + count) c.push_from.new.near c.push_from.new.places.items).
    (whole row l.near c.args.near.now l.places.items c.args.places.now.items l.block (blocks * 16) count c.push_from.new.near c.push_from.new.places.items begins ends l.invariant.1 f).found)
    c.push_from.ensures.further

pub returns-clause-marked : goal.returns-clause-marked
returns-clause-marked c =
    let row : List Bool = c.args.row.now in
    let l = c.loop-block in
    let blocks : ℕ = length row / 16 in
    let count : ℕ = length row - blocks * 16 in
    let begins : blocks * 16 ≡ l.block * 16 = omega arith in
    let ends : blocks * 16 + count ≡ length row = omega arith in
    on_ok_weaker c.push_from.result
    (λ (f : (w : List Bool) (g : List ℕ) → IsPart row w g (blocks * 16) l.near l.places.items → IsPart row w g (blocks * 16 + count) c.push_from.new.near c.push_from.new.places.items).
    λ (j : ℕ) (lt : j < length row).
    (whole row l.near c.args.near.now l.places.items c.args.places.now.items l.block (blocks * 16) count c.push_from.new.near c.push_from.new.places.items begins ends l.invariant.1 f).done j lt lt)
    c.push_from.ensures.further

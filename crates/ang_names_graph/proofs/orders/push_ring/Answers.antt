use Rattle.std.specs.Prelude.{ℕ, List, Bool, false, length, take, drop, ◌≡◌, ◌<◌, ◌-◌, ◌||◌, ◌++◌, slice_index_or}
use Rattle.std.proofs.Common.{ap, arith, ◌∙◌}
use Rattle.std.proofs.lemmas.List.{length-drop, take_all}
use Rattle.std.proofs.lemmas.Result.{on_ok_weaker}
use Rattle.ang_names_graph.specs.Graphs.{numbers_below}
use Rattle.ang_names_graph.specs.Marks.{is_new}
use Rattle.ang_names_graph.specs.Tables.{is_reached}
use Rattle.ang_names_graph.proofs.Begun.{row_entry}
use Rattle.ang_names_graph.proofs.Blocks.{ring_found, ring_marked}
use Rattle.ang_names_graph.proofs.orders.push_ring.Goals as goal

-- the slice of the places from one on
abbrev after_place : ℕ → List ℕ → List ℕ
after_place first xs = take (length xs - first) (drop first xs)

ring_is : (first : ℕ) (xs places : List ℕ) → xs ≡ places → after_place first xs ≡ drop first places
ring_is first xs places same = take_all (length xs - first) (drop first xs) (omega (arith, length-drop first xs)) ∙ ap (drop first) same

pub returns-in-Some-clause-pushed : goal.returns-in-Some-clause-pushed
returns-in-Some-clause-pushed c =
    let edges : List Bool = c.args.edges.now in
    let n : ℕ = c.args.n in
    let ring : List ℕ = drop c.args.first c.args.places.now.items in
    let row : List Bool = c.in-Some.row.now in
    let near : List Bool = c.args.near.now in
    let same : after_place c.args.first c.as_slice.result.now ≡ ring = ring_is c.args.first c.as_slice.result.now c.args.places.now.items c.as_slice.ensures.value in
    let entries : (j : ℕ) → j < n → slice_index_or row j false ≡ is_reached edges n ring j
    = λ j lt. c.in-Some.ensures.exact j lt ∙ ap (λ xs. is_reached edges n xs j) same in
    on_ok_weaker c.push_marked.result
    (λ (e : c.push_marked.new.places.items ≡ c.args.places.now.items ++ numbers_below (is_new row near) (length row)).
    e ∙ ap (λ xs. c.args.places.now.items ++ xs) (ring_found edges row near n ring c.in-Some.ensures.size entries))
    c.push_marked.ensures.pushed

pub returns-clause-pushed : goal.returns-clause-pushed
returns-clause-pushed c =
    let edges : List Bool = c.args.edges.now in
    let n : ℕ = c.args.n in
    let ring : List ℕ = drop c.args.first c.args.places.now.items in
    let row : List Bool = c.as_slice-2.result.now in
    let near : List Bool = c.args.near.now in
    let same : after_place c.args.first c.as_slice.result.now ≡ ring = ring_is c.args.first c.as_slice.result.now c.args.places.now.items c.as_slice.ensures.value in
    let entries : (j : ℕ) → j < n → slice_index_or row j false ≡ is_reached edges n ring j
    = λ j lt.
    row_entry (is_reached edges n (after_place c.args.first c.as_slice.result.now)) n j row false (c.as_slice-2.ensures.value ∙ c.in_ok-row.ensures.exact) lt
    ∙ ap (λ xs. is_reached edges n xs j) same in
    let size : length row ≡ n = ap length c.as_slice-2.ensures.value ∙ c.in_ok-row.ensures.size in
    on_ok_weaker c.push_marked-2.result
    (λ (e : c.push_marked-2.new.places.items ≡ c.args.places.now.items ++ numbers_below (is_new row near) (length row)).
    e ∙ ap (λ xs. c.args.places.now.items ++ xs) (ring_found edges row near n ring size entries))
    c.push_marked-2.ensures.pushed

pub returns-clause-marked : goal.returns-clause-marked
returns-clause-marked c =
    let edges : List Bool = c.args.edges.now in
    let n : ℕ = c.args.n in
    let ring : List ℕ = drop c.args.first c.args.places.now.items in
    let row : List Bool = c.as_slice-2.result.now in
    let near : List Bool = c.args.near.now in
    let same : after_place c.args.first c.as_slice.result.now ≡ ring = ring_is c.args.first c.as_slice.result.now c.args.places.now.items c.as_slice.ensures.value in
    let entries : (j : ℕ) → j < n → slice_index_or row j false ≡ is_reached edges n ring j
    = λ j lt.
    row_entry (is_reached edges n (after_place c.args.first c.as_slice.result.now)) n j row false (c.as_slice-2.ensures.value ∙ c.in_ok-row.ensures.exact) lt
    ∙ ap (λ xs. is_reached edges n xs j) same in
    let size : length row ≡ n = ap length c.as_slice-2.ensures.value ∙ c.in_ok-row.ensures.size in
    on_ok_weaker c.push_marked-2.result
    (λ (f : (j : ℕ) → j < length row → slice_index_or c.push_marked-2.new.near j false ≡ (slice_index_or near j false || slice_index_or row j false)).
    ring_marked edges row near c.push_marked-2.new.near n ring size entries f)
    c.push_marked-2.ensures.marked

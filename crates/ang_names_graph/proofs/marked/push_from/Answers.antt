use Rattle.std.specs.Prelude.{ℕ, Bool, List, true, false, length, ◌≡◌, ◌<◌, ◌+◌, ◌++◌, ◌∷◌, [], slice_index_or, slice_set}
use Rattle.std.proofs.Common.{rules, arith, sym, subst, ◌∙◌}
use Rattle.std.proofs.lemmas.List.{length-set}
use Rattle.ang_names_graph.specs.Marks.{IsPart}
use Rattle.ang_names_graph.proofs.Blocks.{part_far, part_found, part_near}
use Rattle.ang_names_graph.proofs.marked.push_from.Goals as goal
use Rattle.ang_names_graph.proofs.marked.push_from.Goals.{then-row-j+then-not-near-j+in_ok-push, else-row-j, else-row-j-via-then-row-j+else-not-near-j, else-row-j-via-else-row-j}

-- the place after one more entry
next_place : (row was near : List Bool) (front places : List ℕ) (start k : ℕ) → IsPart row was front (start + k + 1) near places → IsPart row was front (start + (k + 1)) near places
next_place row was near front places start k p = let same : start + k + 1 ≡ start + (k + 1) = omega arith in subst (λ j. IsPart row was front j near places) same p

pub loop-k-preserved : goal.loop-k-preserved
loop-k-preserved c =
    let row : List Bool = c.args.row.now in
    let start : ℕ = c.args.start in
    let k : ℕ = c.loop-k.k in
    let near : List Bool = c.loop-k.near in
    let places : List ℕ = c.loop-k.places.items in
    let within : start + k < length row = omega arith in
    elim c.if-row-j.branch [
      | then-row-j+then-not-near-j+in_ok-push w ↦
          let there : slice_index_or row (start + k) false ≡ true = search rules in
          let unmarked : slice_index_or near (start + k) false ≡ false = search rules in
          rw (w.near-is, w.places-is, w.in_ok-push.ensures.items) (
            length-set near (start + k) true ∙ c.loop-k.invariant.0,
            λ was front p.
                next_place row was (slice_set near (start + k) true) front (places ++ (start + k) ∷ []) start k
                (part_found row was near front places (start + k) (c.loop-k.invariant.1 was front p) within unmarked there),
          )
      | else-row-j w ↦ elim w.else-row-j.branch [
        | else-row-j-via-then-row-j+else-not-near-j x ↦
            let near_is : slice_index_or near (start + k) false ≡ true = search rules in
            rw (w.near-is, w.places-is) (
              c.loop-k.invariant.0,
              λ was front p. next_place row was near front places start k (part_near row was near front places (start + k) (c.loop-k.invariant.1 was front p) within near_is),
            )
        | else-row-j-via-else-row-j x ↦
            let none : slice_index_or row (start + k) false ≡ false = search rules in
            rw (w.near-is, w.places-is) (
              c.loop-k.invariant.0,
              λ was front p. next_place row was near front places start k (part_far row was near front places (start + k) (c.loop-k.invariant.1 was front p) within none),
            )
      ]
    ]

use Rattle.std.specs.Prelude.{ℕ, Bool, ◌≡◌, ◌≤◌, drop, length}
use Rattle.ang_names_graph.specs.Tables.{Shows}
use Rattle.ang_names_graph.proofs.Rings.{IsRound}
use Rattle.ang_names_graph.proofs.orders.order_of.Given as goal

abbrev pub invariant-loop-distance : goal.invariant-loop-distance
invariant-loop-distance l =
    (length l.near.items ≡ l.n)
    × (l.first ≤ length l.places.items)
    × ((e : ℕ → ℕ → Bool) → Shows l.edges l.n e
    → IsRound e l.n l.i l._distance l.near.items (drop l.first l.places.items) l.places.items)

-- The edges that a table shows end below its number of columns, so its closure holds the ways through it.
use Rattle.std.specs.Prelude.{ℕ, Bool, true, false, List, ◌≡◌, ◌<◌, ◌&&◌, ◌↔◌, nat_lt}
use Rattle.std.proofs.Common.{refl, sym, ◌∙◌}
use Rattle.std.proofs.lemmas.Bool.Decides.{Decides-ltb}
use Rattle.ang_names_graph.specs.Graphs.{leads, Way, IsWithin}
use Rattle.ang_names_graph.specs.Tables.{Shows, at, edges_of}
use Rattle.ang_names_graph.proofs.Closure.{least}

second : (a b c : Bool) → (a && (b && c)) ≡ true → b ≡ true
second true true c e = refl
second true false c e = cc
second false b c e = cc

pub edges_within : (t : List Bool) (n : ℕ) → IsWithin (edges_of t n) n
edges_within t n = record { below = λ i j e. (Decides-ltb j n).0 (second (nat_lt i n) (nat_lt j n) (at t n i j) e) }

pub ways_shown : (t u : List Bool) (n : ℕ) → Shows u n (leads (edges_of t n) n) → (i j : ℕ) → i < n → j < n → (at u n i j ≡ true) ↔ ((m : ℕ) × Way (edges_of t n) m i j)
ways_shown t u n s i j lt jn =
    let r = least (edges_of t n) n (edges_within t n) i j in
    (λ e. r.0 (sym (s.entries i j lt jn) ∙ e), λ w. s.entries i j lt jn ∙ r.1 w)

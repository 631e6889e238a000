use Rattle.std.specs.Prelude.{ℕ, Bool, ◌≡◌, ◌*◌, length}
use Rattle.ang_names_graph.specs.Tables.{Shows}
use Rattle.ang_names_graph.proofs.Rows.{IsTurned}
use Rattle.ang_names_graph.proofs.pass.Given as goal

abbrev pub invariant-loop-i : goal.invariant-loop-i
invariant-loop-i l =
    (length l.table ≡ l.n * l.n)
    × ((f : ℕ → ℕ → Bool) → Shows l.initial.table l.n f → IsTurned l.table l.n l.k l.i f)

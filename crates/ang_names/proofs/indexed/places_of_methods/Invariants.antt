use Rattle.std.proofs.Common.{◌≡◌, ℕ, List, ◌++◌, bytes_eq}
use Rattle.ang_index.specs.Rows.{items_at}
use Rattle.ang_names_known.specs.declared.names.ScriptMethod.{ScriptMethod}
use Rattle.ang_names.specs.Rows.{method_row}
use Rattle.ang_names.proofs.InRows.{places_on}
use Rattle.ang_names.proofs.indexed.places_of_methods.Given as goal

abbrev pub invariant-loop-place : goal.invariant-loop-place
invariant-loop-place l = (name : List ℕ) → method_row name l.methods ≡ items_at 0 name l.names ++ places_on (λ (m : ScriptMethod). bytes_eq m.function.name name) l.methods l.place

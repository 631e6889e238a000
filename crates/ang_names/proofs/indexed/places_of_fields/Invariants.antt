use Rattle.std.proofs.Common.{◌≡◌, ℕ, List, ◌++◌, bytes_eq}
use Rattle.ang_index.specs.Rows.{items_at}
use Rattle.ang_names_known.specs.declared.names.Field.{Field}
use Rattle.ang_names.specs.Rows.{field_row}
use Rattle.ang_names.proofs.InRows.{places_on}
use Rattle.ang_names.proofs.indexed.places_of_fields.Given as goal

abbrev pub invariant-loop-place : goal.invariant-loop-place
invariant-loop-place l = (name : List ℕ) → field_row name l.fields ≡ items_at 0 name l.names ++ places_on (λ (x : Field). bytes_eq x.name name) l.fields l.place

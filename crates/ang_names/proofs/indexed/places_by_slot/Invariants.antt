use Rattle.std.proofs.Common.{◌≡◌, ℕ, [], ◌++◌, ◌==◌}
use Rattle.ang_index.specs.Rows.{items_at}
use Rattle.ang_names_known.specs.declared.names.ScriptMethod.{ScriptMethod}
use Rattle.ang_names.specs.Rows.{slot_row}
use Rattle.ang_names.proofs.InRows.{places_on}
use Rattle.ang_names.proofs.indexed.places_by_slot.Given as goal

abbrev pub invariant-loop-place : goal.invariant-loop-place
invariant-loop-place l = (slot : ℕ) → slot_row slot l.methods ≡ items_at slot [] l.slots ++ places_on (λ (m : ScriptMethod). m.slot == slot) l.methods l.place

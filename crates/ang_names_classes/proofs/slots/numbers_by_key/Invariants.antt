use Rattle.std.proofs.Common.{◌≡◌, ℕ, List, ◌++◌}
use Rattle.ang_index.specs.Rows.{items_at}
use Rattle.ang_names_classes.specs.Keys.{method_key}
use Rattle.ang_names_classes.specs.Slots.{methods_keyed}
use Rattle.ang_names_classes.proofs.Places.{places_on}
use Rattle.ang_names_classes.proofs.slots.numbers_by_key.Given as goal

abbrev pub invariant-loop-number : goal.invariant-loop-number
invariant-loop-number l =
    (name : List ℕ) → methods_keyed l.signatures name ≡ items_at 0 name l.numbers ++ places_on method_key l.signatures l.number name

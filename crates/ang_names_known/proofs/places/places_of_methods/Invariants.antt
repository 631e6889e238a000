use Rattle.std.proofs.Common.{◌≡◌, ℕ, List, take}
use Rattle.std.specs.Prelude.{slice_get}
use Rattle.ang_index.specs.Rows.{items_at}
use Rattle.ang_names_known.specs.NameIndex.{method_names, places_of}
use Rattle.ang_names_known.proofs.places.places_of_methods.Given as goal

abbrev pub invariant-loop-number : goal.invariant-loop-number
invariant-loop-number l = (c : ℕ) (name : List ℕ) → items_at c name l.index ≡ places_of (method_names (slice_get (take l.number l.families) c)) name

use Rattle.std.proofs.Common.{◌≡◌, ℕ, List, ◌++◌, map}
use Rattle.ang_index.specs.Rows.{items_at}
use Rattle.ang_names_known.specs.NameIndex.{places_of}
use Rattle.ang_names_listed.specs.Declarations.{family_name}
use Rattle.ang_names_classes.proofs.Places.{places_on}
use Rattle.ang_names_classes.proofs.placed.places_by_name.Given as goal

abbrev pub invariant-loop-number : goal.invariant-loop-number
invariant-loop-number l = (name : List ℕ) → places_of (map family_name l.families) name ≡ items_at 0 name l.places ++ places_on family_name l.families l.number name

use Rattle.std.proofs.Common.{◌≡◌, ◌++◌, List, take}
use Rattle.std.specs.Prelude.{slice_get}
use Rattle.ang_names_known.specs.Lookup.{FoundMethod}
use Rattle.ang_names_known.specs.MethodPlaces.{AreFound, found_in}
use Rattle.ang_names_known.specs.Nearest.{HasSlots, at_places, methods_declared}
use Rattle.ang_names_known.proofs.NearestMethods.{nearest}
use Rattle.ang_names_known.proofs.methods.push_methods.Given as goal

abbrev pub invariant-loop-place : goal.invariant-loop-place
invariant-loop-place l =
    AreFound l.families l.found.items
    × ((before : List FoundMethod) → found_in l.families l.initial.found.items ≡ nearest before
    → found_in l.families l.found.items ≡ nearest (before ++ at_places l.owner (methods_declared (slice_get l.families l.owner)) (take l.place-index l.places)))
    × HasSlots l.slots (found_in l.families l.found.items)

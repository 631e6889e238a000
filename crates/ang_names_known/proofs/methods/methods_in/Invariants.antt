use Rattle.std.proofs.Common.{◌≡◌, take}
use Rattle.std.specs.Prelude.{filter}
use Rattle.ang_names_known.specs.Lookup.{is_named}
use Rattle.ang_names_known.specs.MethodPlaces.{AreFound, found_in}
use Rattle.ang_names_known.specs.Nearest.{HasSlots}
use Rattle.ang_names_known.proofs.NearestMethods.{nearest, methods_at}
use Rattle.ang_names_known.proofs.methods.methods_in.Given as goal

abbrev pub invariant-loop-number : goal.invariant-loop-number
invariant-loop-number l =
    AreFound l.families l.found.items
    × (found_in l.families l.found.items ≡ nearest (filter (is_named l.name) (methods_at l.families (take l.number-index l.order))))
    × HasSlots l.slots (found_in l.families l.found.items)

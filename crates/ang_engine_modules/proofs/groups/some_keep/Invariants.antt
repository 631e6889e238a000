use Rattle.std.proofs.Common.{◌≡◌, drop}
use Rattle.std.specs.List.{list_any}
use Rattle.ang_engine_modules.specs.Keeping.{place_keeps_some}
use Rattle.ang_engine_modules.proofs.groups.some_keep.Given as goal

abbrev pub invariant-loop-place : goal.invariant-loop-place
invariant-loop-place l =
    list_any (place_keeps_some l.group) l.places ≡ list_any (place_keeps_some l.group) (drop l.place-index l.places)

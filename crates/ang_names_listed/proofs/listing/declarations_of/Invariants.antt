use Rattle.std.proofs.Common.{◌≡◌, ◌++◌, drop, map as list_map}
use Rattle.ang_names_listed.specs.Sources.{source_of}
use Rattle.ang_names_listed.specs.Declarations.{declarations_from}
use Rattle.ang_names_listed.proofs.listing.declarations_of.Given as goal

abbrev pub invariant-loop-number : goal.invariant-loop-number
invariant-loop-number l =
    declarations_from 0 (list_map source_of l.scripts)
    ≡ l.found.items ++ declarations_from l.number (list_map source_of (drop l.number l.scripts))

use Rattle.std.proofs.Common.{◌≡◌, map, take}
use Rattle.ang_view.specs.Hidden.{hidden_entry}
use Rattle.ang_view.proofs.view.hidden_entries.Given as goal

abbrev pub invariant-loop-entry : goal.invariant-loop-entry
invariant-loop-entry l =
    l.view.items ≡ map (hidden_entry l.list l.mask.0) (take l.entry-index l.entries)

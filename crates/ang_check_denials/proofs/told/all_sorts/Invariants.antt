use Rattle.std.proofs.Common.{◌≡◌, ◌++◌, drop, map}
use Rattle.ang_check_denials.specs.Telling.{sort_key}
use Rattle.ang_check_denials.proofs.told.all_sorts.Given as goal

abbrev pub invariant-loop-entry : goal.invariant-loop-entry
invariant-loop-entry l = map sort_key l.whole ≡ l.sorts.items ++ map sort_key (drop l.entry-index l.entry-items)

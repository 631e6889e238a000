use Rattle.std.proofs.Common.{◌≡◌, take}
use Rattle.std.specs.Prelude.{filter}
use Rattle.ang_check_denials.specs.Telling.{chosen}
use Rattle.ang_check_denials.proofs.helpers.helpers_told.Given as goal

abbrev pub invariant-loop-number : goal.invariant-loop-number
invariant-loop-number l = l.numbers.items ≡ filter (chosen l.masked.list l.masked.mask l.scope l.refused l.asks l.told.sought) (take l.number-index l.row)

use Rattle.std.proofs.Common.{◌≡◌, take}
use Rattle.std.specs.Prelude.{filter}
use Rattle.ang_check_denials.specs.Denials.{helps}
use Rattle.ang_check_denials.proofs.helpers.helpers_beside.Given as goal

abbrev pub invariant-loop-number : goal.invariant-loop-number
invariant-loop-number l = l.numbers.items ≡ filter (helps l.masked.list l.masked.mask l.scope l.refused l.asks) (take l.number-index l.row)

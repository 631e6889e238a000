use Rattle.std.proofs.Common.{◌≡◌, drop}
use Rattle.std.specs.List.{list_any}
use Rattle.ang_check_denials.specs.Takers.{can_mean_at}
use Rattle.ang_check_denials.proofs.takers.can_mean_one.Given as goal

abbrev pub invariant-loop-number : goal.invariant-loop-number
invariant-loop-number l = list_any (can_mean_at l.masked.list l.lineage l.asks) l.row ≡ list_any (can_mean_at l.masked.list l.lineage l.asks) (drop l.number-index l.row)

use Rattle.std.proofs.Common.{◌≡◌, drop}
use Rattle.ang_names_known.specs.Lookup.{families_at, kin_of, nearest_default}
use Rattle.ang_names_known.proofs.lookup.nearest_default.Given as goal

abbrev pub invariant-loop-number : goal.invariant-loop-number
invariant-loop-number l =
    nearest_default (kin_of l.families l.family) ≡ nearest_default (families_at l.families (drop l.number-index l.order))

use Rattle.std.proofs.Common.{◌≡◌, drop}
use Rattle.ang_names.specs.Heirs.{missing_among}
use Rattle.ang_names.specs.ByNumber.{interface_methods_at}
use Rattle.ang_names.proofs.heirs.first_missing.Given as goal

abbrev pub invariant-loop-number : goal.invariant-loop-number
invariant-loop-number l =
    missing_among l.families l.class (interface_methods_at l.families l.above)
    ≡ missing_among l.families l.class (interface_methods_at l.families (drop l.number-index l.above))

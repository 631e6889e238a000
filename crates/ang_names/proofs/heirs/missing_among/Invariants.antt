use Rattle.std.proofs.Common.{◌≡◌, drop}
use Rattle.ang_names.specs.Heirs.{missing_among}
use Rattle.ang_names.proofs.heirs.missing_among.Given as goal

abbrev pub invariant-loop-method : goal.invariant-loop-method
invariant-loop-method l =
    missing_among l.families l.class l.methods ≡ missing_among l.families l.class (drop l.method-index l.methods)

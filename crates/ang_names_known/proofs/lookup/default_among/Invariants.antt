use Rattle.std.proofs.Common.{◌≡◌, drop}
use Rattle.ang_names_known.specs.Lookup.{default_among}
use Rattle.ang_names_known.proofs.lookup.default_among.Given as goal

abbrev pub invariant-loop-constructor : goal.invariant-loop-constructor
invariant-loop-constructor l = default_among l.constructors ≡ default_among (drop l.constructor-index l.constructors)

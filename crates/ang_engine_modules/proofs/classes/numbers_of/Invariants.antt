use Rattle.std.proofs.Common.{◌≡◌, ◌∷◌, ◌++◌, drop}
use Rattle.ang_engine_modules.proofs.classes.numbers_of.Given as goal

abbrev pub invariant-loop-family : goal.invariant-loop-family
invariant-loop-family l = l.number ∷ l.above ≡ l.found.items ++ drop l.family-index l.above

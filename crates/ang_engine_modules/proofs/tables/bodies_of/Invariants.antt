use Rattle.std.proofs.Common.{◌≡◌}
use Rattle.ang_engine_modules.proofs.tables.bodies_of.Given as goal

abbrev pub invariant-loop-code : goal.invariant-loop-code
invariant-loop-code l = l.bodies.items ≡ l.yielded

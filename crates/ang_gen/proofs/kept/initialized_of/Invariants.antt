use Rattle.std.proofs.Common.{◌≡◌, ◌++◌, drop}
use Rattle.ang_gen.specs.Initialized.{initialized_from}
use Rattle.ang_gen.proofs.kept.initialized_of.Given as goal

abbrev pub invariant-loop-number : goal.invariant-loop-number
invariant-loop-number l = l.numbers.items ++ initialized_from l.number (drop l.number l.globals) ≡ initialized_from 0 l.globals

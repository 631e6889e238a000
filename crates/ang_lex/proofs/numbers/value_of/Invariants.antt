use Rattle.std.proofs.Common.{◌≡◌, ◌<◌, ◌^◌, take}
use Rattle.std.specs.Str.Parse.{digits_value}
use Rattle.ang_lex.proofs.numbers.value_of.Given as goal

abbrev pub invariant-loop-b : goal.invariant-loop-b
invariant-loop-b l = (l.value ≡ digits_value l.base (take l.b-index l.digits)) × (l.value < 2 ^ 64)

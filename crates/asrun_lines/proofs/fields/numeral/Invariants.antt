use Rattle.std.proofs.Common.{◌≡◌, ◌<◌, ◌^◌, drop}
use Rattle.asrun_lines.specs.Fields.{numeral_of}
use Rattle.asrun_lines.proofs.fields.numeral.Given as goal

abbrev pub invariant-loop-b : goal.invariant-loop-b
invariant-loop-b l = (l.n < 2 ^ 64) × (numeral_of l.base l.n (drop l.b-index l.text) ≡ numeral_of l.base 0 l.text)

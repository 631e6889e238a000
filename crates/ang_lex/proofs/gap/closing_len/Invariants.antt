use Rattle.std.proofs.Common.{◌≡◌, drop}
use Rattle.ang_lex.specs.Tokens.{closing_len}
use Rattle.ang_lex.proofs.Shifted.{shifted}
use Rattle.ang_lex.proofs.gap.closing_len.Given as goal

abbrev pub invariant-loop-i : goal.invariant-loop-i
invariant-loop-i l = shifted l.i (closing_len (drop l.i l.rest)) ≡ closing_len l.rest

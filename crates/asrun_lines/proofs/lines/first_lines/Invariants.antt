use Rattle.asrun_lines.proofs.FirstLines.{HasTaken}
use Rattle.asrun_lines.proofs.lines.first_lines.Given as goal

abbrev pub invariant-loop : goal.invariant-loop
invariant-loop l = HasTaken l.text l.rest l.counter

use Rattle.std.proofs.Common.{length, ◌-◌, ◌+◌, ◌≤◌, drop}
use Rattle.ang_lex.specs.Tokens.{tokens_from}
use Rattle.ang_lex.proofs.Reading.{Reads}
use Rattle.ang_lex.proofs.lexer.tokens_from.Given as goal

abbrev pub invariant-loop-at : goal.invariant-loop-at
invariant-loop-at l = record {
  within : l.at ≤ length l.text;
  line : l.place.line ≤ l.at + 1;
  column : l.place.column ≤ l.at + 1;
  reads : Reads l.tokens.items l.at l.place (drop l.at l.text) (tokens_from (length l.text) l.initial.at l.initial.place (drop l.initial.at l.text));
}

abbrev pub decreases-loop-at : goal.decreases-loop-at
decreases-loop-at l = length l.text - l.at

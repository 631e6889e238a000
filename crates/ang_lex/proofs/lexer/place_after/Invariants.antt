use Rattle.std.proofs.Common.{◌≡◌, ◌+◌, ◌≤◌, drop}
use Rattle.ang_lex.specs.Tokens.{place_after}
use Rattle.ang_lex.proofs.lexer.place_after.Given as goal

abbrev pub invariant-loop-b : goal.invariant-loop-b
invariant-loop-b l = record {
  value : place_after l.place (drop l.b-index l.bytes) ≡ place_after l.initial.place l.bytes;
  line : l.place.line ≤ l.initial.place.line + l.b-index;
  column : l.place.column ≤ l.initial.place.column + l.b-index;
}

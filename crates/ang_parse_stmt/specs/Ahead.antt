-- Looking at the next token without taking it.
use Rattle.std.specs.Prelude.{Bool, true, false, [], ◌∷◌}
use Rattle.ang_lex.specs.declared.token.TokenKind.{TokenKind}
use Rattle.ang_parse_read.specs.Read.{Outcome, Parser}

abbrev pub one_of : {A : Type 0} → Bool → Outcome A → Outcome A → Outcome A
one_of true o w = o
one_of false o w = w

-- p where a token that the test accepts stands first, and else q. Both read from that token on.
abbrev pub ahead : {A : Type 0} → (TokenKind → Bool) → Parser A → Parser A → Parser A
ahead test p q [] = q []
ahead test p q (t ∷ ts) = one_of (test t.kind) (p (t ∷ ts)) (q (t ∷ ts))

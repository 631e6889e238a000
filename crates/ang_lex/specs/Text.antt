-- The text of a token (docs/LANGUAGE.md, "Tokens").
use Rattle.std.specs.Prelude.{ℕ, List, [], slice_range, Option, Some, None}
use Rattle.ang_lex.specs.declared.token.Token.{Token}

-- the bytes of a token in its section's text
abbrev pub text_of : List ℕ → Token → List ℕ
text_of text t = slice_range text t.span.start t.span.end

-- a token's text where the token is written, or else nothing
abbrev pub name_of : List ℕ → Option Token → List ℕ
name_of text None = []
name_of text (Some t) = text_of text t

-- Reading how a parameter is passed: [ "&" [ "in" | "out" | "inout" ] ]. (docs/LANGUAGE.md, "Grammar": `param`.)
use Rattle.std.specs.Prelude.{Option, Some, None}
use Rattle.ang_lex.specs.declared.token.Token.{Token}
use Rattle.ang_lex.specs.declared.token.TokenKind.{TokenKind}
use Rattle.ang_lex.specs.declared.token.TokenKind.TheVariants as k
use Rattle.ang_tree.specs.declared.declaration.Reference.{Reference}
use Rattle.ang_tree.specs.Kinds.{direction_kind}
use Rattle.ang_parse_read.specs.Read.{Parser, ◌>>=◌, pure, Choice, look}
use Rattle.ang_parse_read.specs.Tokens.{perhaps}

abbrev pub reference_of : Token → Option Token → Reference
reference_of sign direction = record { ampersand = sign; direction = direction }

abbrev pub reference_by : TokenKind → Choice (Option Reference)
reference_by k.Ampersand = Some (λ sign. do d ← perhaps direction_kind; pure (Some (reference_of sign d)))
reference_by _ = None

unfoldable pub a_reference : Parser (Option Reference)
a_reference = look reference_by (pure None)

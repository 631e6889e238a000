-- Reading single tokens.
use Rattle.std.specs.Prelude.{Bool, true, false, Option, Some, None}
use Rattle.ang_lex.specs.declared.token.Token.{Token}
use Rattle.ang_lex.specs.declared.token.TokenKind.{TokenKind}
use Rattle.ang_lex.specs.declared.token.TokenKind.TheVariants as k
use Rattle.ang_parse_read.specs.Read.{Parser, pure, look, next, given}

-- a token of a kind that the test accepts
unfoldable pub a_token : (TokenKind → Bool) → Parser Token
a_token test = next (λ kind. given (test kind) pure)

-- the token, if one of such a kind stands there
unfoldable pub perhaps : (TokenKind → Bool) → Parser (Option Token)
perhaps test = look (λ kind. given (test kind) (λ t. pure (Some t))) (pure None)

abbrev pub is_name : TokenKind → Bool
is_name k.Name = true
is_name _ = false

abbrev pub is_left_paren : TokenKind → Bool
is_left_paren k.LeftParen = true
is_left_paren _ = false

abbrev pub is_right_paren : TokenKind → Bool
is_right_paren k.RightParen = true
is_right_paren _ = false

abbrev pub is_left_brace : TokenKind → Bool
is_left_brace k.LeftBrace = true
is_left_brace _ = false

abbrev pub is_right_brace : TokenKind → Bool
is_right_brace k.RightBrace = true
is_right_brace _ = false

abbrev pub is_semicolon : TokenKind → Bool
is_semicolon k.Semicolon = true
is_semicolon _ = false

abbrev pub is_colon : TokenKind → Bool
is_colon k.Colon = true
is_colon _ = false

abbrev pub is_less : TokenKind → Bool
is_less k.Less = true
is_less _ = false

abbrev pub is_greater : TokenKind → Bool
is_greater k.Greater = true
is_greater _ = false

abbrev pub is_while : TokenKind → Bool
is_while k.While = true
is_while _ = false

abbrev pub is_from : TokenKind → Bool
is_from k.From = true
is_from _ = false

abbrev pub is_text : TokenKind → Bool
is_text k.Text = true
is_text _ = false

abbrev pub is_const : TokenKind → Bool
is_const k.Const = true
is_const _ = false

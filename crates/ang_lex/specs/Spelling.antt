-- What a token is spelled like (docs/LANGUAGE.md, "Tokens").
use Rattle.std.specs.Prelude.{ℕ, zero, suc, Bool, false, ◌==◌, ◌||◌, ◌&&◌, not, nat_le, if◌then◌else◌, List, [], ◌∷◌, length, take, drop}
use Rattle.std.specs.List.{list_all}
use Rattle.std.specs.Str.{bytes_eq}
use Rattle.ang_lex.specs.declared.token.TokenKind.{TokenKind}
use Rattle.ang_lex.specs.declared.token.TokenKind.TheVariants as k
use Rattle.ang_lex.specs.Bytes.{is_name_start, is_name_byte, is_text_byte, begins}
use Rattle.ang_lex.specs.Numbers.{is_number}
use Rattle.ang_lex.specs.Words.{reserved_words, signs, not_is, is_listed, lookup}

-- a name: a letter or `_`, then letters, digits and `_`
abbrev pub is_name : List ℕ → Bool
is_name [] = false
is_name (b ∷ bs) = is_name_start b && list_all is_name_byte bs

-- what follows the opening quote of a text: its bytes, and the closing quote
abbrev pub is_closed : List ℕ → Bool
is_closed [] = false
is_closed (b ∷ []) = b == 34
is_closed (b ∷ c ∷ bs) = is_text_byte b && is_closed (c ∷ bs)

-- a text: a quote, printable ASCII without `"` and `\`, a quote
abbrev pub is_text : List ℕ → Bool
is_text [] = false
is_text (b ∷ bs) = b == 34 && is_closed bs

-- The front of a rest is a token where these bytes follow it: a name (or a reserved word), a number, a text,
-- one of the signs, or `!is` where no letter, digit or `_` follows.
unfoldable pub is_token : List ℕ → List ℕ → Bool
is_token front after =
    is_name front || is_number front || is_text front || is_listed signs front || (bytes_eq not_is front && not (begins is_name_byte after))

abbrev pub is_token_of : ℕ → List ℕ → Bool
is_token_of n rest = is_token (take n rest) (drop n rest)

-- the greatest length, of these at most, of a token at the front of the rest; 0 where there is none
abbrev pub longest_within : ℕ → List ℕ → ℕ
longest_within zero rest = 0
longest_within (suc n) rest = if is_token_of (suc n) rest then suc n else longest_within n rest

-- the length of the longest token at the front of the rest; 0 where there is none
unfoldable pub longest : List ℕ → ℕ
longest rest = longest_within (length rest) rest

-- what the grammar asks of a token that is spelled so
unfoldable pub kind_of : List ℕ → TokenKind
kind_of text =
    if is_name text then lookup reserved_words text k.Name
    else (if is_number text then k.Number
    else (if is_text text then k.Text
    else lookup signs text k.NotIs))

-- an identifier: a name that is no reserved word, of at most 255 bytes
abbrev pub is_identifier : List ℕ → Bool
is_identifier text = is_name text && not (is_listed reserved_words text) && nat_le (length text) 255

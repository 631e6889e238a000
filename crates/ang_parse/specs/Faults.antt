-- Where a section's tokens cannot be read. (docs/LANGUAGE.md, "Grammar": `TooDeep` and `Syntax`.)
use Rattle.std.specs.Prelude.{◌≡◌, ℕ, ◌+◌, ◌-◌, ◌^◌, ◌<◌, ◌≤◌, List, [], ◌∷◌, length, Ok, slice_get}
use Rattle.std.specs.Option.{option_map_or}
use Rattle.ang_kinds.specs.declared.place.Place.{Place}
use Rattle.ang_lex.specs.declared.token.Token.{Token}
use Rattle.ang_lex.specs.Text.{text_of}
use Rattle.ang_lex.specs.Tokens.{tokens_of, start_of}

-- These are the tokens of the section with this text, whatever its number.
pub record AreTokensOf (text : List ℕ) (tokens : List Token) : Type 0 where
  pub sect : ℕ
  pub are : tokens_of sect text ≡ Ok tokens

-- The columns of a token can be counted, the one past it too.
abbrev pub HasColumns : Token → Type 0
HasColumns t = (t.span.start ≤ t.span.end) × (t.place.column + (t.span.end - t.span.start) < 2 ^ 32)

-- one column past a token
abbrev pub place_behind : Token → Place
place_behind t = record t.place { column = t.place.column + (t.span.end - t.span.start) }

-- One column past the last of the tokens. (Where there is none nothing is refused, since no tokens are a script.)
abbrev pub place_past : List Token → Place
place_past tokens = option_map_or place_behind (slice_get tokens (length tokens - 1)) (start_of 0)

-- Where the rest of the tokens begins: at its first token, or past the last one of all.
abbrev pub place_at : List Token → List Token → Place
place_at tokens (t ∷ rest) = t.place
place_at tokens [] = place_past tokens

-- what stands there: the first token's text, or nothing
abbrev pub name_at : List ℕ → List Token → List ℕ
name_at text (t ∷ rest) = text_of text t
name_at text [] = []

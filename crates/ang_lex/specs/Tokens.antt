-- The tokens of a section, or its first fault (docs/LANGUAGE.md, "Tokens").
use Rattle.std.specs.Prelude.{ℕ, zero, suc, ◌+◌, ◌<◌, ◌≤◌, Bool, false, ◌==◌, ◌||◌, not, nat_lt, is_none, if◌then◌else◌, List, [], ◌∷◌, ◌++◌, length, take, drop, Option, Some, None, option_map, Result, Ok, Err, codes, nat_eq}
use Rattle.std.specs.List.{prefix_len, starts_with}
use Rattle.ang_kinds.specs.declared.place.Place.{Place}
use Rattle.ang_lex.specs.declared.token.Token.{Token}
use Rattle.ang_lex.specs.declared.token.TokenKind.{TokenKind}
use Rattle.ang_lex.specs.declared.token.TokenKind.TheVariants as k
use Rattle.ang_lex.specs.declared.error.LexError.{LexError}
use Rattle.ang_lex.specs.declared.error.LexError.TheVariants.{TooLong, BadByte, BadNumber, OpenComment}
use Rattle.ang_lex.specs.declared.shape.Piece.{Piece}
use Rattle.ang_lex.specs.declared.shape.Piece.TheVariants as piece
use Rattle.ang_lex.specs.declared.shape.Fault.{Fault}
use Rattle.ang_lex.specs.declared.shape.Fault.TheVariants as fault
use Rattle.ang_lex.specs.Bytes.{line_feed, is_white, is_name_byte, begins}
use Rattle.ang_lex.specs.Numbers.{spelled_number}
use Rattle.ang_lex.specs.Spelling.{longest, kind_of}

-- ---- gaps

-- the bytes up to the end of the line, without it
abbrev pub line_len : List ℕ → ℕ
line_len = prefix_len (λ b. not (b == line_feed))

-- the bytes up to the next `*/` and with it, if one comes
abbrev pub closing_len : List ℕ → Option ℕ
closing_len [] = None
closing_len (b ∷ bs) = if starts_with nat_eq (b ∷ bs) (codes "*/") then Some 2 else option_map suc (closing_len bs)

-- ---- what stands at the front of a rest that has a byte at least

-- a number of 2^64 or more, or one with a letter, a digit, `_` or `.` directly after it
abbrev pub is_bad_number : TokenKind → List ℕ → List ℕ → Bool
is_bad_number k.Number text after = is_none (spelled_number text) || begins (λ b. is_name_byte b || b == 46) after
is_bad_number _ text after = false

-- the token that the text spells, unless it has more than 255 bytes or is a bad number
abbrev pub token_piece : List ℕ → List ℕ → Result Piece Fault
token_piece text after =
    if nat_lt 255 (length text) then Err fault.TooLong
    else (if is_bad_number (kind_of text) text after then Err fault.BadNumber
    else Ok (piece.Token (kind_of text) (length text)))

-- the longest token, if there is one
abbrev pub longest_piece : ℕ → List ℕ → Result Piece Fault
longest_piece zero rest = Err fault.BadByte
longest_piece (suc n) rest = token_piece (take (suc n) rest) (drop (suc n) rest)

-- a comment goes to its `*/`
abbrev pub block_piece : Option ℕ → Result Piece Fault
block_piece None = Err fault.OpenComment
block_piece (Some n) = Ok (piece.Gap (2 + n))

-- a byte of white space, a comment, or the longest token
unfoldable pub piece_of : List ℕ → Result Piece Fault
piece_of rest =
    if begins is_white rest then Ok (piece.Gap 1)
    else (if starts_with nat_eq rest (codes "//") then Ok (piece.Gap (line_len rest))
    else (if starts_with nat_eq rest (codes "/*") then block_piece (closing_len (drop 2 rest))
    else longest_piece (longest rest) rest))

-- ---- places

-- A byte takes a column; after an LF a line begins.
abbrev pub next_place : Place → ℕ → Place
next_place place b = if b == line_feed then record place { line = place.line + 1; column = 1 } else record place { column = place.column + 1 }

-- the place after these bytes
abbrev pub place_after : Place → List ℕ → Place
place_after place [] = place
place_after place (b ∷ bs) = place_after (next_place place b) bs

abbrev pub start_of : ℕ → Place
start_of sect = record { sect = sect; line = 1; column = 1 }

-- ---- the tokens of a section

abbrev pub error_at : Place → Fault → LexError
error_at place fault.TooLong = TooLong place
error_at place fault.BadByte = BadByte place
error_at place fault.BadNumber = BadNumber place
error_at place fault.OpenComment = OpenComment place

-- a token of n bytes at a point of a section, which has `at` bytes before it, and its place
abbrev pub token_at : TokenKind → ℕ → ℕ → Place → Token
token_at kind n at place = record { kind = kind; span = record { start = at; end = at + n }; place = place }

abbrev pub with_first : Token → Result (List Token) LexError → Result (List Token) LexError
with_first t (Ok ts) = Ok (t ∷ ts)
with_first t (Err e) = Err e

-- how many bytes a piece has
abbrev pub piece_len : Piece → ℕ
piece_len (piece.Gap n) = n
piece_len (piece.Token kind n) = n

-- these tokens, and then the piece if it is one
abbrev pub tokens_with : List Token → Piece → ℕ → Place → List Token
tokens_with tokens (piece.Gap n) at place = tokens
tokens_with tokens (piece.Token kind n) at place = tokens ++ token_at kind n at place ∷ []

-- a piece, and what is read after its bytes
abbrev pub with_piece : Result Piece Fault → ℕ → Place → (ℕ → Result (List Token) LexError) → Result (List Token) LexError
with_piece (Err f) at place behind = Err (error_at place f)
with_piece (Ok (piece.Gap n)) at place behind = behind n
with_piece (Ok (piece.Token kind n)) at place behind = with_first (token_at kind n at place) (behind n)

-- The tokens of the rest of a section, from a point on, or its first fault. Each piece has a byte at least, so there
-- are no more pieces than bytes.
abbrev pub tokens_from : ℕ → ℕ → Place → List ℕ → Result (List Token) LexError
tokens_from pieces at place [] = Ok []
tokens_from zero at place (b ∷ bs) = Ok []
tokens_from (suc pieces) at place (b ∷ bs) =
    with_piece (piece_of (b ∷ bs)) at place (λ n. tokens_from pieces (at + n) (place_after place (take n (b ∷ bs))) (drop n (b ∷ bs)))

-- the bytes EF BB BF at the start of a section are white space
abbrev pub mark_len : List ℕ → ℕ
mark_len text = if starts_with nat_eq text (0xEF ∷ 0xBB ∷ 0xBF ∷ []) then 3 else 0

-- The tokens of a section of at most 65,536 bytes, or its first fault.
unfoldable pub tokens_of : ℕ → List ℕ → Result (List Token) LexError
tokens_of sect text =
    let n = mark_len text in
    if nat_lt 65536 (length text) then Err (TooLong (start_of sect))
    else tokens_from (length text) n (place_after (start_of sect) (take n text)) (drop n text)

-- the token has a byte at least, and its bytes are among the first `size`
abbrev pub IsWithin : ℕ → Token → Type 0
IsWithin size t = (t.span.start < t.span.end) × (t.span.end ≤ size)

-- The tokens of a section in the manual's words: gaps and spans in turn (docs/LANGUAGE.md, "Tokens"). That `tokens_of`
-- computes what this says is the contract of `one_reading`.
use Rattle.std.specs.Prelude.{◌≡◌, ℕ, ◌+◌, ◌<◌, ◌≤◌, Bool, true, false, ◌==◌, not, ◌⊎◌, List, [], ◌∷◌, length, take, drop, codes, nat_eq}
use Rattle.std.specs.List.{list_all, starts_with}
use Rattle.ang_kinds.specs.declared.place.Place.{Place}
use Rattle.ang_lex.specs.declared.token.Token.{Token}
use Rattle.ang_lex.specs.declared.error.LexError.{LexError}
use Rattle.ang_lex.specs.declared.error.LexError.TheVariants.{TooLong}
use Rattle.ang_lex.specs.declared.shape.Fault.{Fault}
use Rattle.ang_lex.specs.declared.shape.Fault.TheVariants as fault
use Rattle.ang_lex.specs.Bytes.{line_feed, is_white, begins}
use Rattle.ang_lex.specs.Spelling.{is_token, kind_of}
use Rattle.ang_lex.specs.Tokens.{place_after, start_of, error_at, token_at, is_bad_number, mark_len}

abbrev pub stays_in_line : ℕ → Bool
stays_in_line b = not (b == line_feed)

-- The first n bytes of the rest are a byte of white space.
pub record IsWhiteSpace (rest : List ℕ) (n : ℕ) : Type 0 where
  pub one : n ≡ 1
  pub white : begins is_white rest ≡ true

-- They are `//` and what stands up to the end of the line, or of the section.
pub record IsLineComment (rest : List ℕ) (n : ℕ) : Type 0 where
  pub opened : starts_with nat_eq rest (codes "//") ≡ true
  pub within : n ≤ length rest
  pub one_line : list_all stays_in_line (take n rest) ≡ true
  pub ended : begins stays_in_line (drop n rest) ≡ false

-- They are `/*`, a body, and the first `*/` after the `/*`.
pub record IsBlockComment (rest : List ℕ) (n : ℕ) : Type 0 where
  pub opened : starts_with nat_eq rest (codes "/*") ≡ true
  pub body : ℕ
  pub size : n ≡ 2 + body + 2
  pub closed : starts_with nat_eq (drop (2 + body) rest) (codes "*/") ≡ true
  pub first : (k : ℕ) → k < body → starts_with nat_eq (drop (2 + k) rest) (codes "*/") ≡ false

-- They are white space or a comment.
abbrev pub IsGap : List ℕ → ℕ → Type 0
IsGap rest n = IsWhiteSpace rest n ⊎ (IsLineComment rest n ⊎ IsBlockComment rest n)

-- They are a token, and no more bytes are one.
pub record IsLongestToken (rest : List ℕ) (n : ℕ) : Type 0 where
  pub some : 0 < n
  pub within : n ≤ length rest
  pub token : is_token (take n rest) (drop n rest) ≡ true
  pub longest : (m : ℕ) → n < m → m ≤ length rest → is_token (take m rest) (drop m rest) ≡ false

-- The rest begins with neither `//` nor `/*`.
pub record BeginsNoComment (rest : List ℕ) : Type 0 where
  pub no_line : starts_with nat_eq rest (codes "//") ≡ false
  pub no_block : starts_with nat_eq rest (codes "/*") ≡ false

-- The first n bytes of the rest are its longest token, where no comment begins. It is neither too long nor a bad number.
pub record IsSpan (rest : List ℕ) (n : ℕ) : Type 0 where
  pub token : IsLongestToken rest n
  pub no_comment : BeginsNoComment rest
  pub short : n ≤ 255
  pub good : is_bad_number (kind_of (take n rest)) (take n rest) (drop n rest) ≡ false

-- ---- faults

-- A `/*` without its `*/`.
pub record IsOpenComment (rest : List ℕ) : Type 0 where
  pub opened : starts_with nat_eq rest (codes "/*") ≡ true
  pub unclosed : (k : ℕ) → starts_with nat_eq (drop (2 + k) rest) (codes "*/") ≡ false

-- A byte that is no white space, and begins no comment and no token.
pub record IsBadByte (rest : List ℕ) : Type 0 where
  pub some : 0 < length rest
  pub no_white : begins is_white rest ≡ false
  pub no_comment : BeginsNoComment rest
  pub no_token : (m : ℕ) → 0 < m → m ≤ length rest → is_token (take m rest) (drop m rest) ≡ false

-- A token of more than 255 bytes.
pub record IsLongToken (rest : List ℕ) : Type 0 where
  pub size : ℕ
  pub token : IsLongestToken rest size
  pub no_comment : BeginsNoComment rest
  pub long : 255 < size

-- A token that isn't too long, and is a bad number.
pub record IsBadNumberToken (rest : List ℕ) : Type 0 where
  pub size : ℕ
  pub token : IsLongestToken rest size
  pub no_comment : BeginsNoComment rest
  pub short : size ≤ 255
  pub bad : is_bad_number (kind_of (take size rest)) (take size rest) (drop size rest) ≡ true

abbrev pub IsFaultAt : List ℕ → Fault → Type 0
IsFaultAt rest fault.TooLong = IsLongToken rest
IsFaultAt rest fault.BadByte = IsBadByte rest
IsFaultAt rest fault.BadNumber = IsBadNumberToken rest
IsFaultAt rest fault.OpenComment = IsOpenComment rest

-- ---- sections

-- From a point of a section on, after `at` bytes and at a place, the rest is gaps and these tokens.
pub data IsCut : ℕ → Place → List ℕ → List Token → Type 0 where
  ended : {at : ℕ} {place : Place} → IsCut at place [] []
  gap : {at : ℕ} {place : Place} {rest : List ℕ} {ts : List Token} (n : ℕ) → IsGap rest n →
      IsCut (at + n) (place_after place (take n rest)) (drop n rest) ts → IsCut at place rest ts
  span : {at : ℕ} {place : Place} {rest : List ℕ} {ts : List Token} (n : ℕ) → IsSpan rest n →
      IsCut (at + n) (place_after place (take n rest)) (drop n rest) ts → IsCut at place rest (token_at (kind_of (take n rest)) n at place ∷ ts)

-- From a point of a section on the rest is gaps and spans up to this fault.
pub data StopsAt : ℕ → Place → List ℕ → LexError → Type 0 where
  here : {at : ℕ} {place : Place} {rest : List ℕ} (f : Fault) → IsFaultAt rest f → StopsAt at place rest (error_at place f)
  past_gap : {at : ℕ} {place : Place} {rest : List ℕ} {e : LexError} (n : ℕ) → IsGap rest n →
      StopsAt (at + n) (place_after place (take n rest)) (drop n rest) e → StopsAt at place rest e
  past_span : {at : ℕ} {place : Place} {rest : List ℕ} {e : LexError} (n : ℕ) → IsSpan rest n →
      StopsAt (at + n) (place_after place (take n rest)) (drop n rest) e → StopsAt at place rest e

-- A section has at most 65,536 bytes. A byte order mark at its start is white space.
pub record IsSection (sect : ℕ) (text : List ℕ) (ts : List Token) : Type 0 where
  pub size : length text ≤ 65536
  pub cut : IsCut (mark_len text) (place_after (start_of sect) (take (mark_len text) text)) (drop (mark_len text) text) ts

-- Too many bytes are a fault at the section's start, before all others.
pub record IsLongSection (sect : ℕ) (text : List ℕ) (e : LexError) : Type 0 where
  pub size : 65536 < length text
  pub at_start : e ≡ TooLong (start_of sect)

pub record HasFault (sect : ℕ) (text : List ℕ) (e : LexError) : Type 0 where
  pub size : length text ≤ 65536
  pub stops : StopsAt (mark_len text) (place_after (start_of sect) (take (mark_len text) text)) (drop (mark_len text) text) e

-- the first fault of a section
abbrev pub IsFirstFault : ℕ → List ℕ → LexError → Type 0
IsFirstFault sect text e = IsLongSection sect text e ⊎ HasFault sect text e
